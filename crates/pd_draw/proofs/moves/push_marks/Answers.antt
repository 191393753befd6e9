use Rattle.std.proofs.Common.{◌++◌, ◌∙◌, List, ap, map}
use Rattle.std.proofs.lemmas.Result.{on_ok_weaker}
use Rattle.pd_line.specs.declared.notes.Fault.{Fault}
use Rattle.pd_draw.specs.Marks.{Mark, change_marks, event_marks, fault_mark, lane_marked, marks_of, start_marks}
use Rattle.pd_draw.proofs.MarkLemmas.{lane_more, marks_more, marks_text}
use Rattle.pd_draw.proofs.moves.push_marks.Goals as goal

pub returns-clause-text : goal.returns-clause-text
unfolding marks_of
returns-clause-text c =
    let p = c.args.place in
    let seen = c.args.seen.now in
    let es : List Mark = event_marks seen seen.entry.due.what in
    let fs : List Mark = map fault_mark seen.entry.faults.items in
    let cs : List Mark = change_marks seen.entry.contract in
    let ss : List Mark = start_marks seen.by seen.entry.start in
    on_ok_weaker c.push_start_mark.result
    (λ h. marks_more p c.args.lane.now c.push_event_mark.new.lane es (fs ++ (cs ++ ss)) _ _ _ c.in_ok-push_event_mark.ensures.text
    c.in_ok-push_event_mark.ensures.lane
    (marks_more p c.push_event_mark.new.lane c.push_fault_marks.new.lane fs (cs ++ ss) _ _ _
    (c.in_ok-push_fault_marks.ensures.text
    ∙ ap (λ (v : List Fault). c.push_event_mark.new.text.items ++ marks_text p c.push_event_mark.new.lane (map fault_mark v))
    c.as_slice.ensures.value)
    (c.in_ok-push_fault_marks.ensures.lane
    ∙ ap (λ (v : List Fault). lane_marked p c.push_event_mark.new.lane (map fault_mark v)) c.as_slice.ensures.value)
    (marks_more p c.push_fault_marks.new.lane c.push_change_mark.new.lane cs ss _ _ _ c.in_ok-push_change_mark.ensures.text
    c.in_ok-push_change_mark.ensures.lane h)))
    c.push_start_mark.ensures.text

pub returns-clause-lane : goal.returns-clause-lane
unfolding marks_of
returns-clause-lane c =
    let p = c.args.place in
    let seen = c.args.seen.now in
    let es : List Mark = event_marks seen seen.entry.due.what in
    let fs : List Mark = map fault_mark seen.entry.faults.items in
    let cs : List Mark = change_marks seen.entry.contract in
    let ss : List Mark = start_marks seen.by seen.entry.start in
    on_ok_weaker c.push_start_mark.result
    (λ h. lane_more p c.args.lane.now c.push_event_mark.new.lane _ es (fs ++ (cs ++ ss)) c.in_ok-push_event_mark.ensures.lane
    (lane_more p c.push_event_mark.new.lane c.push_fault_marks.new.lane _ fs (cs ++ ss)
    (c.in_ok-push_fault_marks.ensures.lane
    ∙ ap (λ (v : List Fault). lane_marked p c.push_event_mark.new.lane (map fault_mark v)) c.as_slice.ensures.value)
    (lane_more p c.push_fault_marks.new.lane c.push_change_mark.new.lane _ cs ss c.in_ok-push_change_mark.ensures.lane h)))
    c.push_start_mark.ensures.lane
