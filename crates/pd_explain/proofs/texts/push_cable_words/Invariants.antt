use Rattle.std.proofs.Common.{◌≡◌, ◌++◌, map, take}
use Rattle.pd_scenario.specs.declared.named.NamedCable.{NamedCable}
use Rattle.pd_explain.specs.Sentences.{behind_commas}
use Rattle.pd_explain.proofs.texts.push_cable_words.Given as goal

abbrev pub invariant-loop-cable : goal.invariant-loop-cable
invariant-loop-cable l =
    l.text.items ≡ l.initial.text.items ++ behind_commas (map (λ (x : NamedCable). x.name) (take l.cable-index l.cables))
