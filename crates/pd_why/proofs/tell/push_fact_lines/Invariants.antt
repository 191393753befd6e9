use Rattle.std.proofs.Common.{◌≡◌, ◌++◌, take}
use Rattle.std.specs.List.{flat_map}
use Rattle.pd_why.specs.Tellings.{fact_line}
use Rattle.pd_why.proofs.tell.push_fact_lines.Given as goal

abbrev pub invariant-loop-fact : goal.invariant-loop-fact
invariant-loop-fact l = l.text.items ≡ l.initial.text.items ++ flat_map (fact_line l.form) (take l.fact-index l.facts)
