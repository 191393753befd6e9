use Rattle.std.proofs.Common.{◌≡◌, ◌++◌, map, take}
use Rattle.std.specs.List.{flat_map}
use Rattle.pd_chart.specs.Elements.{element_text}
use Rattle.pd_draw.specs.Marks.{fault_mark, lane_marked, marks_elements}
use Rattle.pd_draw.proofs.moves.push_fault_marks.Given as goal

abbrev pub invariant-loop-fault : goal.invariant-loop-fault
invariant-loop-fault l = record {
  text_is : l.text.items
      ≡ l.fn.text.items ++ flat_map element_text (marks_elements l.place l.fn.lane (map fault_mark (take l.fault-index l.faults)));
  lane_is : l.lane ≡ lane_marked l.place l.fn.lane (map fault_mark (take l.fault-index l.faults));
}
