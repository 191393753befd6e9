use Rattle.std.proofs.Common.{◌≡◌, ℕ, ◌<◌, get_or, false}
use Rattle.pd_log.specs.Parts.{is_gap}
use Rattle.pd_log.proofs.parts.part_len.Given as goal

abbrev pub invariant-loop-i : goal.invariant-loop-i
invariant-loop-i l = (k : ℕ) → k < l.i → is_gap (get_or l.line k 0) ≡ false
