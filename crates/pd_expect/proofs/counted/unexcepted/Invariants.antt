use Rattle.std.proofs.Common.{◌≡◌, take}
use Rattle.std.specs.Prelude.{filter}
use Rattle.pd_expect.specs.Sentences.{stays}
use Rattle.pd_expect.proofs.counted.unexcepted.Given as goal

abbrev pub invariant-loop-note : goal.invariant-loop-note
invariant-loop-note g l = l.kept.items ≡ filter (stays l.but l.line) (take l.note-index l.all)
