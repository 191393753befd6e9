-- Moves that go on from a run up to a time aren't earlier.
use Rattle.std.proofs.Common.{All, length, ◌≡◌, ℕ, ◌≤◌, ◌<◌, List, [], ◌∷◌, ◌++◌, Option, None, Some, IfNone, subst, arith}
use Rattle.std.proofs.lemmas.List.{append-nil}
use Rattle.pd_port.specs.declared.due.Due.{Due}
use Rattle.pd_scenario.specs.Plan.{Plan, count}
use Rattle.pd_run.specs.Order.{EachAfter}
use Rattle.pd_run.specs.Run.{Move, GoesOn, NoneLater, due_after}
use Rattle.pd_run.specs.Live.{RunsTo}
use Rattle.pd_run.specs.UpTo.{IsUpTo}
use Rattle.pd_run.proofs.Cut.{EachAfter-back}
use Rattle.pd_run.proofs.Alike.{none_later-back}

-- nor is what is due after them
pub due_later_yet : (plan : Plan) (past done : List Move) (from p : ℕ) (d : Due) → IsUpTo plan past from → RunsTo plan (past ++ done)
    → p < count plan → due_after plan (past ++ done) p ≡ Some d → d.time ≤ plan.end → from ≤ d.time
due_later_yet plan past [] from p d up runs lt e soon =
    up.passed p d lt (subst (λ (l : List Move). due_after plan l p ≡ Some d) (append-nil past) e) soon
due_later_yet plan past (m ∷ ms) from p d up runs lt e soon =
    let chained : EachAfter (GoesOn plan) past (m ∷ ms) = EachAfter-back (GoesOn plan) [] past (m ∷ ms) runs.chained in
    let timely = EachAfter-back (λ _ x. x.due.time ≤ plan.end) [] past (m ∷ ms) runs.timely in
    let first = up.passed m.port m.due chained.0.known chained.0.due_is timely.0 in
    let then : NoneLater d.time p (m ∷ ms) = none_later-back d.time p past (m ∷ ms) (runs.ahead p d lt e) in
    let le = then.0.by_time in
    omega arith

pub if_none : {X : Type 0} (r : Option X) (P : Type 0) → P → IfNone r P
if_none None P h = h
if_none (Some x) P h = tt

-- where there are moves between two times, the one is before the other
pub between_some : (moves : List Move) (from to : ℕ) → 0 < length moves → All (λ m. from ≤ m.due.time) moves
    → All (λ m. m.due.time < to) moves → from < to
between_some [] from to some late early = absurd (omega arith)
between_some (m ∷ ms) from to some late early =
    let a = late 0 m (omega arith) in
    let b = early 0 m (omega arith) in
    omega (arith, a, b)
