use Rattle.std.proofs.Common.{◌≡◌, take}
use Rattle.pd_sweep.specs.Sums.{kinds, noted_kinds}
use Rattle.pd_sweep.proofs.sums.note_kinds.Given as goal

abbrev pub invariant-loop-index : goal.invariant-loop-index
invariant-loop-index l = l.tallies ≡ noted_kinds l.reserve l.old l.trial (take l.index kinds) l.fn.tallies
