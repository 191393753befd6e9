use Rattle.std.proofs.Common.{◌≡◌, rules, sym, ◌∙◌}
use Rattle.std.proofs.lemmas.List.Sorted.{answers_always}
use Rattle.pd_scenario.specs.Plans.{plan_of, changes_of}
use Rattle.pd_scenario.proofs.ByTime.{place, in_order}
use Rattle.pd_scenario.proofs.Ids.{one_change}
use Rattle.pd_scenario.proofs.changes.Changes.of_scenario.Goals as goal

pub invariant_of-result : goal.invariant_of-result
unfolding plan_of
invariant_of-result g c =
    let events = c.args.scenario.now.events in
    let by_time = c.sort_unstable_by_key.new.self.items in
    let made : c.in_ok-made.made.items ≡ changes_of events = c.in_ok-made.ensures.value in
    let copied : c.in_ok-made.made.items ≡ c.in_ok-by_time.by_time.items = made ∙ sym c.in_ok-by_time.ensures.value in
    record {
      same = rw copied c.sort_unstable_by_key.ensures.permutation;
      in_order = in_order by_time (c.sort_unstable_by_key.ensures.sorted place
          (answers_always _ (λ a r. r ≡ place a.0.now) _ (λ f a r f' called. search rules)));
      one_each = rw made (one_change events c.events-events.ensures.is_valid.events_differ);
    }
