use Rattle.std.proofs.Common.{◌∙◌, List, ap, map}
use Rattle.std.proofs.lemmas.Result.{on_ok_weaker}
use Rattle.pd_line.specs.declared.notes.Fault.{Fault}
use Rattle.pd_show.specs.Lines.{all_lines, fault_line, lines_before}
use Rattle.pd_show.specs.Pages.{written}
use Rattle.pd_show.proofs.PageLemmas.{written_parts}
use Rattle.pd_show.proofs.lines.push_all.Goals as goal

pub returns : goal.returns
unfolding all_lines lines_before
returns c =
    on_ok_weaker c.push_state_line.result
    (λ h. written_parts _ _ _ _ _ _ _ _ _ _ _ _ _ _ _ _ c.in_ok-push_event_line.ensures
    (c.in_ok-push_fault_lines.ensures
    ∙ ap (λ (fs : List Fault). written c.args.choice.now.form c.push_event_line.new.page (map (fault_line c.args.seen.now) fs))
    c.as_slice.ensures.value)
    c.in_ok-push_asked_line.ensures c.in_ok-push_change_line.ensures c.in_ok-push_hold_line.ensures
    c.in_ok-push_start_line.ensures h)
    c.push_state_line.ensures
