use Rattle.std.proofs.Common.{◌≡◌, ◌∙◌, ◌-◌, Some, sym, ap, subst, arith, take, get_or, ℕ, List}
use Rattle.std.proofs.lemmas.Bool.{OnTrue_from}
use Rattle.std.proofs.lemmas.List.{at_drop_all, at_drop_more, take_more}
use Rattle.pd_places.specs.FirstLines.{added}
use Rattle.pd_places.specs.Same.{same_id_part}
use Rattle.pd_places.specs.Numbered.{numbered}
use Rattle.pd_places.proofs.FirstLines.{full_bytes}
use Rattle.pd_places.proofs.NumberedTexts.{more_added, all_added}
use Rattle.pd_places.proofs.Seen.{HasIds, is_first_id, one_more_id}
use Rattle.pd_places.proofs.same.push_same_ids.Goals as goal

pub push_same_id-requires-clause-first : goal.push_same_id-requires-clause-first
push_same_id-requires-clause-first c =
    let i = c.loop-id.id-index in
    let at : i ≡ c.loop-id.number - 1 = omega (arith, c.loop-id.invariant.count) in
    OnTrue_from c.in_ok-is_new.is_new _
    (λ new. is_first_id c.args.ids.now c.loop-id.seen.keys i 0 c.in_ok-is_new.is_new c.loop-id.invariant.before
    c.in_ok-is_new.ensures.added c.loop-id-test.true new ∙ ap (λ (n : ℕ). Some n) at)

pub loop-id-preserved : goal.loop-id-preserved
loop-id-preserved c =
    let part = same_id_part c.args.spot.now c.args.ids.now in
    let i = c.loop-id.id-index in
    let found = one_more_id (take i c.args.ids.now) c.loop-id.seen.keys c.insert.new.self.keys (get_or c.args.ids.now i 0)
    c.loop-id.invariant.before c.in_ok-is_new.ensures.keys in
    record {
      text =
          more_added _ c.loop-id.told _ part c.loop-id.number _ _
          (c.loop-id.invariant.text
          ∙ at_drop_more (λ xs. added c.loop-id.told (numbered part c.loop-id.number xs)) c.args.ids.now i 0 c.loop-id-test.true)
          c.in_ok-push_same_id.ensures;
      count = omega (arith, c.loop-id.invariant.count);
      before = subst (λ (xs : List ℕ). HasIds xs c.insert.new.self.keys) (sym (take_more c.args.ids.now i 0 c.loop-id-test.true)) found;
    }

pub returns : goal.returns
returns c =
    let part = same_id_part c.args.spot.now c.args.ids.now in
    all_added _ c.loop-id.told part c.loop-id.number
    (c.loop-id.invariant.text
    ∙ at_drop_all (λ xs. added c.loop-id.told (numbered part c.loop-id.number xs)) c.args.ids.now c.loop-id.id-index
    c.loop-id-test.false)

pub returns-then-is_full : goal.returns-then-is_full
returns-then-is_full c = full_bytes _ c.loop-id.told _ c.loop-id.invariant.text (sym c.is_full.ensures ∙ c.if-is_full.true)
