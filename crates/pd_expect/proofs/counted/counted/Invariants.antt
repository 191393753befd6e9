use Rattle.std.proofs.Common.{◌≡◌, take}
use Rattle.std.specs.Prelude.{filter, option_map}
use Rattle.pd_expect.specs.Counted.{counts}
use Rattle.pd_expect.proofs.counted.counted.Given as goal

abbrev pub invariant-loop-note : goal.invariant-loop-note
invariant-loop-note g l = l.kept.items ≡ filter (counts l.period (option_map (λ x. x.now) l.text)) (take l.note-index l.all)
