use Rattle.std.proofs.Common.{◌<◌, ◌∙◌, arith, length}
use Rattle.std.proofs.lemmas.List.{length-map}
use Rattle.pd_scenario.proofs.HandedOut.{as_many, written_more, items_of}
use Rattle.pd_scenario.proofs.scripts.hand_to_all.Goals as goal

pub loop-place-preserved : goal.loop-place-preserved
loop-place-preserved c =
    let now = length-map c.loop-place.lists.items (λ s. s.items) in
    let first = length-map c.args.lists.now.items (λ s. s.items) in
    let within : c.loop-place.place < length (items_of c.args.lists.now.items) =
    omega (arith, first, c.loop-place.invariant.0, c.loop-place-test.true) in
    let inside : c.loop-place.place < length (items_of c.loop-place.lists.items) =
    omega (arith, now, c.loop-place.invariant.1, c.loop-place-test.true) in (
      c.loop-place.invariant.0,
      as_many _ _ _ _ c.in_ok-hand_to.ensures ∙ c.loop-place.invariant.1,
      c.in_ok-hand_to.ensures ∙ written_more _ _ _ _ within inside c.loop-place.invariant.2,
    )
