use Rattle.std.proofs.Common.{◌≡◌, ◌++◌, map, take}
use Rattle.pd_explain.specs.Sentences.{behind_commas, id_text}
use Rattle.pd_explain.proofs.texts.push_id_words.Given as goal

abbrev pub invariant-loop-event : goal.invariant-loop-event
invariant-loop-event l = l.text.items ≡ l.initial.text.items ++ behind_commas (map id_text (take l.event-index l.events))
