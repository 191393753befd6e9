use Rattle.std.proofs.Common.{◌≡◌, ◌∙◌, ℕ, ap, sym, length, map, fold, [], ◌∷◌, ◌+◌}
use Rattle.std.proofs.lemmas.List.{append-nil}
use Rattle.pd_scenario.specs.Script.{events_for, put}
use Rattle.pd_scenario.proofs.HandedOut.{are_scripts, empty, one_of}
use Rattle.pd_scenario.proofs.Plans.{one_each}
use Rattle.pd_scenario.proofs.scripts.scripts.Goals as goal

pub in_order-requires : goal.in_order-requires
in_order-requires c =
    let step : c.loop-list.list-iterator.rest.items ≡ c.in-Some.list ∷ c.next.new.self.rest.items = c.in-Some.ensures.steps.0 in
    let stands = rw step at c.loop-list.invariant.1 in
    let is = one_of (λ (port : ℕ). events_for c.args.cables.now c.args.sinks.now port c.args.events.now) c.loop-list.yielded
    c.next.new.self.rest.items c.in-Some.list 1 c.args.ports stands in
    rw is (one_each c.args.ports c.args.cables.now c.args.sinks.now c.args.events.now c.requires.fit c.requires.differ
    (1 + length c.loop-list.yielded))

pub returns : goal.returns
returns c =
    let none : c.loop-list.list-iterator.rest.items ≡ [] = empty _ (sym c.loop-list.list-iterator.rest.ok.0 ∙ c.in-None.ensures.steps.0) in
    let all = rw (none, append-nil c.loop-list.yielded) at c.loop-list.invariant.1 in
    c.loop-list.invariant.0 ∙ ap (map (fold put [])) all ∙ are_scripts c.args.cables.now c.args.sinks.now c.args.events.now 1 c.args.ports
