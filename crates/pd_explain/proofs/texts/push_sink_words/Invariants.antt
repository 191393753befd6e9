use Rattle.std.proofs.Common.{◌≡◌, ◌++◌, map, take}
use Rattle.pd_scenario.specs.declared.named.NamedSink.{NamedSink}
use Rattle.pd_explain.specs.Sentences.{behind_commas}
use Rattle.pd_explain.proofs.texts.push_sink_words.Given as goal

abbrev pub invariant-loop-sink : goal.invariant-loop-sink
invariant-loop-sink l = l.text.items ≡ l.initial.text.items ++ behind_commas (map (λ (x : NamedSink). x.name) (take l.sink-index l.sinks))
