-- What counts of what the ports hold, as time passes: the events that ports have had, and the changes that they are still to be told.
use Rattle.std.proofs.Common.{◌≡◌, ◌≢◌, ⊎_elim, ◌⊎◌, ℕ, ◌+◌, ◌<◌, ◌≤◌, Bool, true, false, List, [], ◌∷◌, ◌++◌}
use Rattle.std.proofs.Common.{sum, Some, refl, ap, sym, ◌∙◌, subst, inl, inr, arith, slice_get}
use Rattle.std.proofs.Common.{if◌then◌else◌}
use Rattle.std.specs.Prelude.{Contains}
use Rattle.std.proofs.lemmas.Bool.{cases_lt, cases_eq, cases_Bool}
use Rattle.std.proofs.lemmas.Option.{same_Some}
use Rattle.pd_setup.specs.Events.{EventData}
use Rattle.pd_port.specs.declared.due.Due.{Due}
use Rattle.pd_port.specs.Port.{is_event, due}
use Rattle.pd_port.proofs.PortLaws.{due_event, hold_floor}
use Rattle.pd_port.proofs.BudgetLaws.{due_some}
use Rattle.pd_scenario.specs.declared.budget.BudgetChange.{BudgetChange}
use Rattle.pd_scenario.specs.Plan.{Plan, IsPlan, count, settings_of, script_of, floors_of, told_at, force}
use Rattle.pd_run.specs.Order.{EachAfter, IsNoLater}
use Rattle.pd_run.specs.Run.{Move, Standing, standing, taken_after, due_after, holds_after}
use Rattle.pd_run.specs.Run.{GoesOn, NoneLater}
use Rattle.pd_run.specs.Laws.{AreFloored}
use Rattle.pd_run.proofs.Moves.{standing-same, standing-other}
use Rattle.pd_run.proofs.Forces.{change_or_none, same_force, changes_there}
use Rattle.pd_run.proofs.Scripts.{next_tells}
use Rattle.pd_run.proofs.Steps.{hold_known, length-holds_after, some_event}
use Rattle.pd_run.proofs.Awaited.{tells, all_counted, counted_at, length-all_counted, told_of, tells_of, counted_floor}
use Rattle.pd_run.proofs.Awaited.{counted_hold, counted_falls, floor_at, length-floors, sum-below}

-- no hold is below its floor
pub floored : (plan : Plan) (past : List Move) → AreFloored plan past
floored plan past p lt = omega (arith, hold_known plan past p lt, hold_floor (settings_of plan p) (standing plan past p).state)

pub floored_from : (plan : Plan) (past rest : List Move) → EachAfter (λ before m. AreFloored plan (before ++ m ∷ [])) past rest
floored_from plan past [] = tt
floored_from plan past (m ∷ ms) = (floored plan (past ++ m ∷ []), floored_from plan (past ++ m ∷ []) ms)

-- The events that the ports have had are no later than these moves.
abbrev pub HaveHad : Plan → List Move → Type 0
HaveHad plan past = (t p q i : ℕ) (e : EventData) → NoneLater t p past → i < (standing plan past q).taken
    → slice_get (script_of plan q) i ≡ Some e → IsNoLater e.at q t p

-- none of the earlier moves, and not the last one
pub split : (t p : ℕ) (past : List Move) (m : Move) → NoneLater t p (past ++ m ∷ []) → NoneLater t p past × IsNoLater m.due.time m.port t p
split t p [] m h = (tt, h.0)
split t p (x ∷ xs) m h = let k = split t p xs m h.1 in ((h.0, k.0), k.1)

pub below_next : (i n : ℕ) → i < n + 1 → (i < n) ⊎ (i ≡ n)
below_next i n h = elim (cases_lt i n) [ inl lt ↦ inl lt | inr le ↦ inr (omega arith) ]

pub by_event : (b : Bool) (i n : ℕ) → i < (if b then n + 1 else n) → (i < n) ⊎ ((b ≡ true) × (i ≡ n))
by_event true i n h = elim (below_next i n h) [ inl lt ↦ inl lt | inr e ↦ inr (refl, e) ]
by_event false i n h = inl h

-- an event that a move uses up is at the move's time
pub had_now : (plan : Plan) (past : List Move) (m : Move) (t p i : ℕ) (e : EventData) → GoesOn plan past m
    → IsNoLater m.due.time m.port t p → is_event m.due.what ≡ true → i ≡ (standing plan past m.port).taken →
    slice_get (script_of plan m.port) i ≡ Some e → IsNoLater e.at m.port t p
had_now plan past m t p i e goes le ev is get =
    let x = some_event m.due.what ev in
    let next = due_event _ _ m.due x.0 goes.due_is x.1 in
    let one : e ≡ x.0 = same_Some _ _ (sym get ∙ ap (slice_get (script_of plan m.port)) is ∙ next.0) in
    let time : e.at ≡ m.due.time = ap (λ (y : EventData). y.at) one ∙ sym next.1 in
    record { by_time = omega (arith, le.by_time, time); by_port = λ same. le.by_port (omega (arith, time)) }

pub had_step : (plan : Plan) (past : List Move) (m : Move) → HaveHad plan past → GoesOn plan past m → HaveHad plan (past ++ m ∷ [])
had_step plan past m had goes = λ t p q i e none lt get.
    let parts = split t p past m none in
    ⊎_elim
    (λ (same : m.port ≡ q).
    let here : (standing plan (past ++ m ∷ []) q).taken ≡ taken_after (standing plan past q).taken m.due =
    ap (λ (s : Standing). s.taken) (standing-same plan past m q same) in
    let lt_here : i < taken_after (standing plan past q).taken m.due = omega (arith, here) in
    elim (by_event (is_event m.due.what) i (standing plan past q).taken lt_here) [
      | inl before ↦ had t p q i e parts.0 before get
      | inr now ↦
          let at_port : i ≡ (standing plan past m.port).taken = now.1 ∙ ap (λ k. (standing plan past k).taken) (sym same) in
          let got : slice_get (script_of plan m.port) i ≡ Some e = ap (λ k. slice_get (script_of plan k) i) same ∙ get in
          subst (λ k. IsNoLater e.at k t p) same (had_now plan past m t p i e goes parts.1 now.0 at_port got)
    ])
    (λ (other : m.port ≢ q).
    let there : (standing plan (past ++ m ∷ []) q).taken ≡ (standing plan past q).taken =
    ap (λ (s : Standing). s.taken) (standing-other plan past m q other) in
    had t p q i e parts.0 (omega (arith, there)) get)
    (cases_eq m.port q)

-- nothing is due before a time
abbrev pub NothingBefore : Plan → List Move → ℕ → Type 0
NothingBefore plan past at = (q : ℕ) (d : Due) → q < count plan → due_after plan past q ≡ Some d → at ≤ d.time

-- and so no next event is
pub no_event_before : (plan : Plan) (past : List Move) (at q : ℕ) → NothingBefore plan past at → q < count plan → (e : EventData)
    → slice_get (script_of plan q) (standing plan past q).taken ≡ Some e → at ≤ e.at
no_event_before plan past at q nothing lt e get =
    let f = due_some (standing plan past q).state e in
    let is_due : due_after plan past q ≡ Some f.0 = ap (due (standing plan past q).state) get ∙ f.1 in
    let k = nothing q f.0 lt is_due in
    let l = f.2 in
    omega arith

-- Where the budget changes at t, a port whose events so far are earlier, and whose next event isn't, is told next.
pub told_next : (n : ℕ) (plan : Plan) (past : List Move) (q : ℕ) (change : BudgetChange) → IsPlan n plan → q < count plan
    → Contains plan.forces change →
    ((i : ℕ) (e : EventData) → i < (standing plan past q).taken → slice_get (script_of plan q) i ≡ Some e → e.at < change.at) →
    ((e : EventData) → slice_get (script_of plan q) (standing plan past q).taken ≡ Some e → change.at ≤ e.at) →
    slice_get (script_of plan q) (standing plan past q).taken ≡ Some (told_at change.at)
told_next n plan past q change is lt there had next =
    next_tells (script_of plan q) (standing plan past q).taken change.at (is.in_order q)
    (is.told q (omega (arith, is.settings_count)) change there) had next

-- what counts fits the budget of a time
abbrev pub Counts : Plan → List Move → ℕ → Type 0
Counts plan past at = sum (all_counted plan past at) ≤ force plan at

-- where each port is still to be told, the floors count
pub floors_count : (n : ℕ) (plan : Plan) (past : List Move) (at : ℕ) → IsPlan n plan
    → ((q : ℕ) → q < count plan → tells plan.forces at (slice_get (script_of plan q) (standing plan past q).taken) ≡ true)
    → Counts plan past at
floors_count n plan past at is all =
    let below = sum-below (all_counted plan past at) (floors_of plan) (length-all_counted plan past at ∙ sym (length-floors plan))
    (λ k lt.
    let kn : k < count plan = omega (arith, length-all_counted plan past at) in
    omega (arith, counted_at plan past at k kn, counted_floor plan at k (standing plan past k) (all k kn), floor_at plan k)) in
    let funded = is.always_funded at in
    omega arith

-- time passes while nothing is due: where the budget changes all are to be told of it, and else no more counts than before
pub passes : (n : ℕ) (plan : Plan) (past : List Move) (from to : ℕ) → IsPlan n plan → HaveHad plan past → NoneLater from (count plan) past
    → from ≤ to → NothingBefore plan past to → Counts plan past from → Counts plan past to
passes n plan past from to is had none le nothing counts =
    elim (change_or_none plan.forces from to) [
      | inl c ↦
          let since_then = c.by_then in
          let since = c.after in
          floors_count n plan past to is (λ q lt.
          let next = told_next n plan past q c.change is lt c.one
          (λ i e before get. let k = (had from (count plan) q i e none before get).by_time in omega arith)
          (λ e get. let k = no_event_before plan past to q nothing lt e get in omega arith) in
          tells_of plan.forces c.change.at to _ next (changes_there plan.forces c.change c.one) since_then)
      | inr still ↦
          let same = same_force plan from to le still in
          let below = sum-below (all_counted plan past to) (all_counted plan past from) (length-all_counted plan past to
          ∙ sym (length-all_counted plan past from))
          (λ k lt.
          let kn : k < count plan = omega (arith, length-all_counted plan past to) in
          omega (
            arith,
            counted_at plan past to k kn,
            counted_at plan past from k kn,
            counted_falls plan from to k (standing plan past k) le,
          )) in
          omega arith
    ]

-- once nothing is due up to a time, what is held counts
pub all_held : (plan : Plan) (past : List Move) (at : ℕ)
    → ((q : ℕ) (d : Due) → q < count plan → due_after plan past q ≡ Some d → at < d.time) → Counts plan past at
    → sum (holds_after plan past) ≤ force plan at
all_held plan past at later counts =
    let below = sum-below (holds_after plan past) (all_counted plan past at) (length-holds_after plan past
    ∙ sym (length-all_counted plan past at))
    (λ k lt.
    let kn : k < count plan = omega (arith, length-holds_after plan past) in
    let next = slice_get (script_of plan k) (standing plan past k).taken in
    let not_told : tells plan.forces at next ≡ false =
    elim (cases_Bool (tells plan.forces at next)) [
      | inl is_told ↦
          let told = told_of plan.forces at next is_told in
          let e = no_event_before plan past (at + 1) k (λ q d qn is. let l = later q d qn is in omega arith) kn told.event told.is_next in
          let since_then = told.by_then in
          absurd (omega arith)
      | inr is_not ↦ is_not
    ] in
    omega (arith, hold_known plan past k kn, counted_at plan past at k kn, counted_hold plan at k (standing plan past k) not_told)) in
    omega arith
