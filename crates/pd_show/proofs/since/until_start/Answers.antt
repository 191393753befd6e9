use Rattle.std.proofs.Common.{◌∙◌, List, ap, map}
use Rattle.pd_line.specs.declared.notes.Fault.{Fault}
use Rattle.pd_show.specs.Lines.{asked_lines, change_lines, event_lines, fault_line, hold_lines, lines_before}
use Rattle.pd_show.specs.Pages.{last_at}
use Rattle.pd_show.proofs.SinceLemmas.{after_five}
use Rattle.pd_show.proofs.since.until_start.Goals as goal

pub returns : goal.returns
unfolding lines_before
returns c =
    let seen = c.args.seen.now in
    let event = c.after_event-event.result in
    after_five c.args.before event c.after_faults-faults.result c.after_asked-asked.result c.after_change-change.result
    c.after_hold.result (event_lines seen seen.entry.due.what) (map (fault_line seen) seen.entry.faults.items)
    (asked_lines seen seen.entry.query) (change_lines seen seen.entry.contract) (hold_lines seen) c.after_event-event.ensures
    (c.after_faults-faults.ensures ∙ ap (λ (fs : List Fault). last_at event (map (fault_line seen) fs)) c.as_slice.ensures.value)
    c.after_asked-asked.ensures c.after_change-change.ensures c.after_hold.ensures
