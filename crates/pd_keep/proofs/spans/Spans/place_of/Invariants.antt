use Rattle.std.proofs.Common.{◌≤◌, ◌-◌, length, take}
use Rattle.pd_keep.specs.Spans.{kept_of_spans}
use Rattle.pd_keep.proofs.spans.Spans.place_of.Given as goal

abbrev pub invariant-loop-place : goal.invariant-loop-place
invariant-loop-place l = record {
  within : l.place ≤ length l.self;
  from : length (kept_of_spans (take l.place l.self)) ≤ l.i;
}

abbrev pub decreases-loop-place : goal.decreases-loop-place
decreases-loop-place l = length l.self - l.place
