use Rattle.std.proofs.Common.{◌∙◌, ap, sym}
use Rattle.std.specs.Prelude.{replicate}
use Rattle.pd_setup.specs.Events.{EventData}
use Rattle.pd_sweep.specs.Lost.{with_events}
use Rattle.pd_sweep.proofs.LostLemmas.{put_together}
use Rattle.pd_sweep.proofs.lose.with_losses.Goals as goal

pub returns : goal.returns
returns c =
    let at = c.args.at in
    let count = c.args.count in
    let script = c.args.script.now in
    put_together _ _ _ _ _ _ _ script c.count_ahead.result c.new-events.ensures.items c.in_ok-extend_from_slice.ensures.items
    c.in_ok-push_row.ensures c.in_ok-extend_from_slice-2.ensures.items c.split_at.ensures.front c.split_at.ensures.back
    ∙ sym (c.count_ahead.ensures.value (replicate count c.put_in.result))
    ∙ ap (λ (e : EventData). with_events (replicate count e) at script) c.put_in.ensures
