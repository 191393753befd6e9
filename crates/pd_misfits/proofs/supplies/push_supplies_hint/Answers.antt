use Rattle.std.proofs.Common.{◌≡◌, ◌++◌, ◌∙◌, OnOk, ap, subst, sym}
use Rattle.std.proofs.lemmas.List.{append-nil}
use Rattle.pd_misfits.specs.Supplies.{pair_hint}
use Rattle.pd_misfits.proofs.Outs.{hint_of_first, no_hint}
use Rattle.pd_misfits.proofs.supplies.push_supplies_hint.Goals as goal

pub returns-in-Some : goal.returns-in-Some
returns-in-Some c =
    subst (λ s. OnOk c.push_pair_hint.result (c.push_pair_hint.new.text.items ≡ c.args.text.now.items ++ s))
    (ap pair_hint c.pair_of.ensures ∙ sym (hint_of_first c.args.items.now c.in-Some.item.now c.in-Some.ensures))
    c.push_pair_hint.ensures

pub returns-in-None : goal.returns-in-None
returns-in-None c =
    sym (ap (λ s. c.args.text.now.items ++ s) (no_hint c.args.items.now c.in-None.ensures) ∙ append-nil c.args.text.now.items)
