use Rattle.std.proofs.Common.{rules, tests, ◌==◌, [], ◌∷◌}
use Rattle.std.proofs.lemmas.Iterator.Splits.{YieldsList-from_slice_split}
use Rattle.std.proofs.lemmas.Iterator.Consumers.{YieldsList-turn, YieldsList-end}
use Rattle.std.proofs.lemmas.List.{map-append}
use Rattle.pd_decode.proofs.ArgumentLemmas.{SoFar-push, SoFar-all, no_part_fails}
use Rattle.pd_decode.proofs.argument.read_codes.Goals as goal

pub returns-in_default-clause-none : goal.returns-in_default-clause-none
returns-in_default-clause-none c =
    let t = YieldsList-turn
    (YieldsList-from_slice_split _ (λ b. b == 32) c.args.text.now (cc) (cc) (cc) (λ x r q k. search (rules, tests)))
    c.loop-part.yielded _ c.loop-part.yielded_by _ _ c.in-Some.part c.in-Some.is c.next.ensures.steps in
    no_part_fails c.args.text.now _ c.in-Some.part.now t c.in_default.ensures.none

pub loop-part-preserved : goal.loop-part-preserved
loop-part-preserved c =
    rw (map-append (λ part. part.now) c.loop-part.yielded (c.in-Some.part ∷ []), c.in_ok-push.ensures.items)
    (SoFar-push _ _ c.in-Some.part.now c.in-Some-code_of.code c.loop-part.invariant c.in-Some-code_of.ensures.found
    c.in-Some-code_of.ensures.fits)

pub returns-clause-found : goal.returns-clause-found
returns-clause-found c =
    let t = YieldsList-end (YieldsList-from_slice_split _ (λ b. b == 32) c.args.text.now (cc) (cc) (cc) (λ x r q k. search (rules, tests)))
    c.loop-part.yielded _ c.loop-part.yielded_by _ _ c.in-None.is c.next.ensures.steps in
    SoFar-all c.args.text.now _ c.loop-part.codes.items c.loop-part.invariant t.0
