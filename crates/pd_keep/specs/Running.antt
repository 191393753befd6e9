-- What a runner keeps: a plan and the spans of its run, or nothing.
use Rattle.std.specs.Prelude.{ℕ, [], Option, None, Some}
use Rattle.pd_keep.specs.declared.kept.KeptRun.{KeptRun}
use Rattle.pd_keep.specs.Fresh.{Running}
use Rattle.pd_keep.specs.Spans.{moves_of, IsKept}

-- the plan and the moves of its run
abbrev pub running : (n : ℕ) → Option (KeptRun n) → Running
running n None = record { plan = None; moves = [] }
running n (Some run) = record { plan = Some run.plan; moves = moves_of run.spans }

-- what is kept is a run, if anything is
abbrev pub Keeps : (n : ℕ) → Option (KeptRun n) → Type 0
Keeps n None = Unit {0}
Keeps n (Some run) = IsKept n run.plan run.spans
