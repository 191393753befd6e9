use Rattle.std.proofs.Common.{◌-◌, length, map, take}
use Rattle.pd_run.specs.Notes.{NoneLeaves}
use Rattle.pd_keep.specs.Kept.{shown_of}
use Rattle.pd_keep.specs.Spans.{kept_of_spans}
use Rattle.pd_keep.proofs.spans.Spans.next_with.Given as goal

abbrev pub invariant-loop-span : goal.invariant-loop-span
invariant-loop-span l =
    NoneLeaves l.note (map shown_of (kept_of_spans l.self)) l.from (length (kept_of_spans (take l.place l.self)))

abbrev pub decreases-loop-span : goal.decreases-loop-span
decreases-loop-span l = length l.self - l.place
