use Rattle.std.proofs.Common.{rules}
use Rattle.std.proofs.lemmas.List.Sorted.{answers_always}
use Rattle.pd_scenario.proofs.ByTime.{place, in_order}
use Rattle.pd_scenario.proofs.by_time.sort.Goals as goal

pub returns-clause-in_order : goal.returns-clause-in_order
returns-clause-in_order c =
    in_order _ (c.sort_unstable_by_key.ensures.sorted place (answers_always _ _ _ (λ f a r g h. search rules)))
