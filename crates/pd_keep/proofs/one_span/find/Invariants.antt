use Rattle.std.proofs.Common.{◌≢◌, ℕ, ◌<◌, slice_index_or}
use Rattle.pd_keep.specs.Kept.{kept_of}
use Rattle.pd_keep.proofs.one_span.find.Given as goal

abbrev pub invariant-loop-i : goal.invariant-loop-i
invariant-loop-i l = (k : ℕ) → k < l.i → slice_index_or l.old.moves k (kept_of l.port l.before l.due l.answer) ≢ kept_of l.port
    l.before l.due l.answer
