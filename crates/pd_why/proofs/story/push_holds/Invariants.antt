use Rattle.std.proofs.Common.{◌≡◌, ◌++◌, map, take}
use Rattle.pd_why.specs.Facts.{hold_fact}
use Rattle.pd_why.proofs.story.push_holds.Given as goal

abbrev pub invariant-loop-holder : goal.invariant-loop-holder
invariant-loop-holder l = l.facts.items ≡ l.initial.facts.items ++ map hold_fact (take l.holder-index l.holders)
