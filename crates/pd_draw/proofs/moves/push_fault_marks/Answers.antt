use Rattle.std.proofs.Common.{◌≡◌, ◌+◌, ◌<◌, ◌∷◌, ◌++◌, ◌∙◌, List, [], ap, sym, get_or, length, map, take}
use Rattle.std.specs.List.{flat_map}
use Rattle.std.proofs.lemmas.List.{map-append, take_more}
use Rattle.pd_chart.specs.Elements.{element_text}
use Rattle.pd_line.specs.declared.notes.Fault.{Fault}
use Rattle.pd_line.specs.declared.notes.Fault.TheVariants.{Ignored}
use Rattle.pd_draw.specs.Marks.{Mark, fault_mark, lane_marked, marks_elements}
use Rattle.pd_draw.proofs.MarkLemmas.{lane_more, marks_more}
use Rattle.pd_draw.proofs.moves.push_fault_marks.Goals as goal

pub loop-fault-preserved : goal.loop-fault-preserved
loop-fault-preserved c =
    let faults : List Fault = c.args.faults.now in
    let i = c.loop-fault.fault-index in
    let here : i < length faults = c.loop-fault-test.true in
    let fault : Fault = get_or faults i (Ignored 0) in
    let so_far : List Mark = map fault_mark (take i faults) in
    let more : map fault_mark (take i faults) ++ fault_mark fault ∷ [] ≡ map fault_mark (take (i + 1) faults) =
    sym (map-append fault_mark (take i faults) (fault ∷ [])) ∙ ap (map fault_mark) (sym (take_more faults i (Ignored 0) here)) in
    record {
      text_is =
          marks_more c.args.place c.args.lane.now c.loop-fault.lane so_far (fault_mark fault ∷ []) _ _ _
          c.loop-fault.invariant.text_is c.loop-fault.invariant.lane_is c.in_ok-push_fault_mark.ensures.text
          ∙ ap (λ (ms : List Mark). c.args.text.now.items ++ flat_map element_text (marks_elements c.args.place c.args.lane.now ms)) more;
      lane_is =
          lane_more c.args.place c.args.lane.now c.loop-fault.lane _ so_far (fault_mark fault ∷ []) c.loop-fault.invariant.lane_is
          c.in_ok-push_fault_mark.ensures.lane
          ∙ ap (lane_marked c.args.place c.args.lane.now) more;
    }
