use Rattle.std.proofs.Common.{◌≡◌, take}
use Rattle.pd_keep.proofs.kept_move.KeptMoves.first_ports.Given as goal

abbrev pub invariant-loop-port : goal.invariant-loop-port
invariant-loop-port l = l.ports.items ≡ take l.port-index l.port-items
