use Rattle.std.proofs.Common.{◌≡◌, ◌++◌, ◌∙◌, sym, subst, ap, OnOk, arith}
use Rattle.std.proofs.lemmas.List.{append-nil}
use Rattle.pd_misfits.proofs.Pairs.{left_text, more_fit, first_told, all_fit}
use Rattle.pd_misfits.proofs.supplies.push_misfit.Goals as goal

pub returns-then-not-fits : goal.returns-then-not-fits
returns-then-not-fits c =
    subst (λ b. OnOk c.push_place.result (c.push_place.new.text.items ≡ b ++ left_text c.args.fault 1 0 c.args.items.now))
    c.loop-item.invariant.text
    (subst (λ s. OnOk c.push_place.result (c.push_place.new.text.items ≡ c.loop-item.text.items ++ s))
    (sym (first_told _ c.args.fault c.loop-item.number c.loop-item.before c.args.items.now c.loop-item.item-index c.item-item.result
    c.pair_of-pair.result c.loop-item-test.true c.item-item.is c.pair_of-pair.ensures (sym c.fits.ensures ∙ grind arith)
    c.loop-item.invariant.told))
    c.push_place.ensures)

pub loop-item-preserved : goal.loop-item-preserved
loop-item-preserved c = record {
  told =
      more_fit _ c.args.fault c.loop-item.number c.loop-item.before c.voltage-before.result c.args.items.now c.loop-item.item-index
      c.item-item.result c.pair_of-pair.result c.loop-item-test.true c.item-item.is c.pair_of-pair.ensures
      (sym c.fits.ensures ∙ grind arith) c.voltage-before.ensures c.loop-item.invariant.told;
  text = c.loop-item.invariant.text;
  count = omega (arith, c.loop-item.invariant.count);
}

pub returns : goal.returns
returns c =
    c.loop-item.invariant.text
    ∙ sym (ap (λ s. c.args.text.now.items ++ s)
    (all_fit _ c.args.fault c.loop-item.number c.loop-item.before c.args.items.now c.loop-item.item-index c.loop-item-test.false
    c.loop-item.invariant.told) ∙ append-nil c.args.text.now.items)
