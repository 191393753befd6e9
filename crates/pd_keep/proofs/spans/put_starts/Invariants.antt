use Rattle.std.proofs.Common.{◌≡◌, List, ◌≤◌, ◌<◌, ◌+◌, ◌-◌, ◌/◌, ◌++◌, length, replicate, take}
use Rattle.std.specs.Prelude.{max}
use Rattle.pd_keep.specs.Firsts.{AreStarts}
use Rattle.pd_keep.specs.Kept.{RunData}
use Rattle.pd_keep.specs.Spans.{kept_of_spans}
use Rattle.pd_keep.proofs.spans.put_starts.Given as goal

abbrev pub invariant-loop-starts : goal.invariant-loop-starts
invariant-loop-starts l = record {
  starts : (spans : List RunData) → l.place < length spans → length (kept_of_spans (take l.place spans)) ≤ l.first
      → AreStarts l.fn.starts.items spans → AreStarts l.starts.items spans;
  placed : l.starts.items ≡ l.fn.starts.items ++ replicate (length l.starts.items - length l.fn.starts.items) l.place;
  few : length l.starts.items ≤ max (length l.fn.starts.items) (l.len / 64 + 1);
  more : length l.fn.starts.items ≤ length l.starts.items;
}

abbrev pub decreases-loop-starts : goal.decreases-loop-starts
decreases-loop-starts l = l.len / 64 + 1 - length l.starts.items
