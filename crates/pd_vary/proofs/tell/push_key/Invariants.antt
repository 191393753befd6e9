use Rattle.std.proofs.Common.{◌≡◌, ◌++◌, map, take}
use Rattle.pd_vary.specs.Tellings.{key_byte}
use Rattle.pd_vary.proofs.tell.push_key.Given as goal

abbrev pub invariant-loop-byte : goal.invariant-loop-byte
invariant-loop-byte l = l.text.items ≡ l.initial.text.items ++ map key_byte (take l.byte-index l.name)
