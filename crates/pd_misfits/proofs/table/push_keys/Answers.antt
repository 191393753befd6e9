use Rattle.std.proofs.Common.{◌∙◌}
use Rattle.pd_misfits.specs.Lines.{key_part}
use Rattle.pd_misfits.proofs.Keys.{first_keys, more_keys, no_keys}
use Rattle.pd_misfits.proofs.table.push_keys.Goals as goal

pub loop-key-init : goal.loop-key-init
loop-key-init c =
    first_keys c.args.text.now.items (key_part c.args.spot.now c.args.version c.args.kind) c.args.table.now.entries _
    (c.into_iter-key-iterator.ensures.into_iter_gives ∙ c.keys-key-items.ensures.rest)

pub loop-key-preserved : goal.loop-key-preserved
loop-key-preserved c =
    more_keys _ _ _ _ (key_part c.args.spot.now c.args.version c.args.kind) _ _ _ c.loop-key.invariant
    c.in-Some.ensures.steps c.as_str.ensures.value
    c.in_ok-push_key.ensures

pub returns : goal.returns
returns c = no_keys _ _ (key_part c.args.spot.now c.args.version c.args.kind) _ c.loop-key.invariant (c.in-None.ensures.steps.0)
