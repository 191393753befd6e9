-- The holds of a run fit the budget at the end of each instant.
use Rattle.std.proofs.Common.{◌≡◌, ◌≢◌, ⊎_elim, ℕ, suc, ◌+◌, ◌<◌, ◌≤◌, Bool, true, false, nat_le, List, [], ◌∷◌, ◌++◌, length}
use Rattle.std.proofs.Common.{sum, Option, Some, option_map, refl, ap, sym, ◌∙◌, subst, inl, inr, arith, append_assoc, slice_get}
use Rattle.std.proofs.Common.{slice_index, slice_set}
use Rattle.std.specs.Prelude.{All, Contains}
use Rattle.std.proofs.lemmas.List.{append-nil, get_or-set_same, get_or-set_other, length-set}
use Rattle.std.proofs.lemmas.Bool.{cases_lt, cases_eq, cases_Bool}
use Rattle.std.proofs.lemmas.Bool.Decides.{nat_tests}
use Rattle.std.proofs.lemmas.Option.{same_Some}
use Rattle.pd_objects.specs.Answers.{IsAllowed}
use Rattle.pd_objects.specs.declared.query.Answer.{Answer}
use Rattle.pd_objects.specs.declared.query.Answer.TheVariants as answers
use Rattle.pd_setup.specs.Settings.{floor_of}
use Rattle.pd_port.specs.declared.due.Due.{Due}
use Rattle.pd_port.specs.declared.due.What.TheVariants as what
use Rattle.pd_port.specs.Budget.{RestsEmpty}
use Rattle.pd_port.specs.Happens.{is_budget}
use Rattle.pd_port.specs.Port.{due, ask, hold}
use Rattle.pd_port.proofs.PortLaws.{hold_fits, hold_floor, hold_detached}
use Rattle.pd_port.proofs.BudgetLaws.{empty_detached, empty_after, ask_budget, keeps_or_sheds, event_first}
use Rattle.pd_ledger.specs.Account.{free_of, total_with}
use Rattle.pd_ledger.specs.Offer.{answer_of}
use Rattle.pd_ledger.proofs.Offers.{answer-allowed}
use Rattle.pd_ledger.proofs.Sums.{sum-set}
use Rattle.pd_scenario.specs.declared.budget.BudgetChange.{BudgetChange}
use Rattle.pd_scenario.specs.Plan.{Plan, IsPlan, count, settings_of, script_of, floors_of, force}
use Rattle.pd_run.specs.Order.{EachAfter, IsNoLater}
use Rattle.pd_run.specs.Run.{Move, Run, Standing, standing, moved, after, due_after, account_after, holds_after}
use Rattle.pd_run.specs.Run.{GoesOn, IsInOrder, NoneLater, IsAnswered}
use Rattle.pd_run.specs.Laws.{HoldsFit, ContractsFit, AtEnds, EndsBetween, IsWithin}
use Rattle.pd_run.proofs.Moves.{standing-same, standing-other, none_later-raise}
use Rattle.pd_run.proofs.OneRun.{Rest, tail, whole, first_first}
use Rattle.pd_run.proofs.Forces.{change_at, changes_there}
use Rattle.pd_run.proofs.Steps.{table-set, hold_known, length-holds_after}
use Rattle.pd_run.proofs.Contracts.{contracts_held}
use Rattle.pd_run.proofs.Awaited.{tells, counted, all_counted, counted_at, length-all_counted, told_of, tells_of, counted_floor}
use Rattle.pd_run.proofs.Awaited.{counted_hold, counted_less, floor_at, length-floors, sum-below, sum-parts}
use Rattle.pd_run.proofs.Passing.{floored, floored_from, HaveHad, split, had_step, NothingBefore}
use Rattle.pd_run.proofs.Passing.{no_event_before, told_next, Counts, passes, all_held}

-- One more move at a time.
record Step (plan : Plan) (past : List Move) (m : Move) : Type 0 where
  goes : GoesOn plan past m
  answered : IsAnswered plan past m
  ordered : IsInOrder past m
  timely : m.due.time ≤ plan.end
  first : (q : ℕ) (d : Due) → q < count plan → due_after plan past q ≡ Some d → IsNoLater m.due.time m.port d.time q

-- what a move changes of what counts
counted_after : (plan : Plan) (past : List Move) (m : Move) (at : ℕ) → m.port < count plan →
    slice_set (all_counted plan past at) m.port (counted plan at m.port (moved plan (standing plan past m.port) m)) ≡ all_counted
    plan (past ++ m ∷ []) at
counted_after plan past m at lt =
    table-set _ _ (count plan) m.port _ lt
    (λ k ne. ap (counted plan at k) (standing-other plan past m k (λ e. ne (sym e))))
    (ap (counted plan at m.port) (standing-same plan past m m.port refl))

-- what the sums come to
record Sums (plan : Plan) (past : List Move) (m : Move) (at : ℕ) : Type 0 where
  moves : sum (all_counted plan (past ++ m ∷ []) at) + counted plan at m.port (standing plan past m.port) ≡ sum
      (all_counted plan past at) + counted plan at m.port (moved plan (standing plan past m.port) m)
  beside : sum (all_counted plan (past ++ m ∷ []) at) ≤ sum (slice_set (holds_after plan past) m.port 0) + counted plan at m.port
      (moved plan (standing plan past m.port) m)

sums : (plan : Plan) (past : List Move) (m : Move) (at : ℕ) → m.port < count plan → Sums plan past m at
sums plan past m at lt =
    let p = m.port in
    let new = counted plan at p (moved plan (standing plan past p) m) in
    let table = counted_after plan past m at lt in
    let cs = all_counted plan past at in
    let hs = holds_after plan past in
    let inside : p < length cs = omega (arith, length-all_counted plan past at) in
    let held : p < length hs = omega (arith, length-holds_after plan past) in
    let set = sum-set cs p new inside in
    let own = counted_at plan past at p lt in
    let whole = ap sum table in
    let to_new = sum-set hs p new held in
    let to_zero = sum-set hs p 0 held in
    let below = sum-below (slice_set cs p new) (slice_set hs p new) (length-set cs p new ∙ length-all_counted plan past at
    ∙ sym (length-set hs p new ∙ length-holds_after plan past))
    (λ k less.
    ⊎_elim
    (λ (same : k ≡ p).
    let a = get_or-set_same cs p new 0 inside in
    let b = get_or-set_same hs p new 0 held in
    let i = ap (λ j. slice_index (slice_set cs p new) j) same in
    let j = ap (λ j. slice_index (slice_set hs p new) j) same in
    omega arith)
    (λ (other : k ≢ p).
    let kn : k < count plan = omega (arith, length-set cs p new, length-all_counted plan past at) in
    omega (
      arith,
      get_or-set_other cs p k new 0 other,
      get_or-set_other hs p k new 0 other,
      counted_at plan past at k kn,
      hold_known plan past k kn,
      counted_less plan at k (standing plan past k),
    ))
    (cases_eq k p)) in
    record { moves = omega arith; beside = omega arith }

-- a port that isn't told of a change comes to hold no more than it held, or than is free
untold : (plan : Plan) (past : List Move) (m : Move) → Step plan past m
    → tells plan.forces m.due.time (slice_get (script_of plan m.port) (standing plan past m.port).taken) ≡ false
    → Counts plan past m.due.time → Counts plan (past ++ m ∷ []) m.due.time
untold plan past m step is_not counts =
    let p = m.port in
    let t = m.due.time in
    let account = account_after plan past t in
    let before : hold (settings_of plan p) m.before ≡ hold (settings_of plan p) (standing plan past p).state =
    ap (hold (settings_of plan p)) step.goes.before_is in
    let allowed : IsAllowed (free_of account p) (ask (settings_of plan p) m.before m.due) m.answer =
    subst (λ (a : Option Answer). IsAllowed (free_of account p) (ask (settings_of plan p) m.before m.due) a) (sym step.answered)
    (answer-allowed account p (ask (settings_of plan p) m.before m.due)) in
    let fits = hold_fits (settings_of plan p) m.before m.due m.answer (free_of account p) allowed in
    let floor = hold_floor (settings_of plan p) m.before in
    let own = floor_at plan p in
    let less = counted_less plan t p (moved plan (standing plan past p) m) in
    let was = counted_hold plan t p (standing plan past p) is_not in
    let s = sums plan past m t step.goes.known in
    let a = s.moves in
    let b = s.beside in
    omega arith

-- Before a port is told of a change, all with higher numbers are still to be told.
others_told : (n : ℕ) (plan : Plan) (past : List Move) (m : Move) (change : BudgetChange) → IsPlan n plan → HaveHad plan past
    → Step plan past m → Contains plan.forces change → change.at ≡ m.due.time →
    (q : ℕ) → m.port < q → q < count plan → tells plan.forces m.due.time (slice_get (script_of plan q) (standing plan past q).taken) ≡ true
others_told n plan past m change is had step there since_then q above lt =
    let next = told_next n plan past q change is lt there
    (λ i e before get.
    let k = had m.due.time m.port q i e step.ordered before get in
    elim (cases_lt e.at change.at) [
      | inl less ↦ less
      | inr more ↦ let l = k.by_time in let o = k.by_port (omega arith) in absurd (omega arith)
    ])
    (λ e get. let k = no_event_before plan past m.due.time q (λ r d rn is_due. (step.first r d rn is_due).by_time) lt e
    get in omega arith) in
    tells_of plan.forces change.at m.due.time _ next (changes_there plan.forces change there) (omega arith)

-- a port that may keep its hold beside the lower ports' holds and the higher ports' floors
kept : (n : ℕ) (plan : Plan) (past : List Move) (m : Move) (change : BudgetChange) → IsPlan n plan → HaveHad plan past → Step plan past m
    → Contains plan.forces change → change.at ≡ m.due.time →
    hold (settings_of plan m.port) (after plan m) ≡ hold (settings_of plan m.port) m.before
    → total_with (account_after plan past m.due.time) m.port (hold (settings_of plan m.port) m.before) ≤ force plan m.due.time
    → Counts plan (past ++ m ∷ []) m.due.time
kept n plan past m change is had step there since_then same fits =
    let p = m.port in
    let t = m.due.time in
    let h = hold (settings_of plan p) m.before in
    let new : List Move = past ++ m ∷ [] in
    let cs = all_counted plan new t in
    let len = length-all_counted plan new t in
    let below = sum-parts p h cs (holds_after plan past) (floors_of plan) (len ∙ sym (length-holds_after plan past))
    (len ∙ sym (length-floors plan)) (let k = step.goes.known in omega arith)
    (λ k low.
    let kn : k < count plan = let l = step.goes.known in omega arith in
    let at_k : standing plan new k ≡ standing plan past k = standing-other plan past m k (λ e. absurd (omega arith)) in
    let there_k = ap (counted plan t k) at_k in
    omega (arith, counted_at plan new t k kn, counted_less plan t k (standing plan past k), hold_known plan past k kn))
    (let at_p = ap (counted plan t p) (standing-same plan past m p refl) in
    omega (arith, counted_at plan new t p step.goes.known, counted_less plan t p (moved plan (standing plan past p) m)))
    (λ k high less.
    let kn : k < count plan = omega arith in
    let at_k : standing plan new k ≡ standing plan past k = standing-other plan past m k (λ e. absurd (omega arith)) in
    let there_k = ap (counted plan t k) at_k in
    omega (
      arith,
      counted_at plan new t k kn,
      counted_floor plan t k (standing plan past k)
          (others_told n plan past m change is had step there since_then k high kn),
      floor_at plan k,
    )) in
    omega arith

-- a port that may not, sheds to its floor
shed : (plan : Plan) (past : List Move) (m : Move) → Step plan past m
    → tells plan.forces m.due.time (slice_get (script_of plan m.port) (standing plan past m.port).taken) ≡ true
    → hold (settings_of plan m.port) (after plan m) ≡ floor_of (settings_of plan m.port)
    → Counts plan past m.due.time → Counts plan (past ++ m ∷ []) m.due.time
shed plan past m step is_told falls counts =
    let p = m.port in
    let t = m.due.time in
    let was = counted_floor plan t p (standing plan past p) is_told in
    let less = counted_less plan t p (moved plan (standing plan past p) m) in
    let s = sums plan past m t step.goes.known in
    let a = s.moves in
    omega arith

-- a port is told of a change
told : (n : ℕ) (plan : Plan) (past : List Move) (m : Move) → IsPlan n plan → HaveHad plan past
    → ((q : ℕ) → RestsEmpty (standing plan past q).state) → Step plan past m →
    tells plan.forces m.due.time (slice_get (script_of plan m.port) (standing plan past m.port).taken) ≡ true → Counts plan past m.due.time
    → Counts plan (past ++ m ∷ []) m.due.time
told n plan past m is had empty step is_told counts =
    let p = m.port in
    let t = m.due.time in
    let s = settings_of plan p in
    let next = slice_get (script_of plan p) (standing plan past p).taken in
    let of = told_of plan.forces t next is_told in
    let e = of.event in
    let by_then = of.by_then in
    let not_before : t ≤ e.at = no_event_before plan past t p (λ r d rn is_due. (step.first r d rn is_due).by_time)
    step.goes.known e of.is_next in
    let now : t ≡ e.at = omega arith in
    let is_due : due (standing plan past p).state (Some e) ≡ Some m.due = ap (due (standing plan past p).state) (sym of.is_next)
    ∙ step.goes.due_is in
    let what_is : m.due.what ≡ what.Event e = event_first (standing plan past p).state e m.due is_due now in
    let changes : is_budget m.due.what ≡ true = ap is_budget what_is ∙ of.is_change in
    let change = change_at plan.forces e.at of.changes_then in
    let rests : RestsEmpty m.before = subst RestsEmpty (sym step.goes.before_is) (empty p) in
    let either = keeps_or_sheds s m.before m.due changes rests in
    let account = account_after plan past t in
    let power = total_with account p (hold s m.before) in
    let asked : m.answer ≡ Some (answers.Fits (nat_le power (force plan t))) = step.answered
    ∙ ap (option_map (answer_of account p)) (ask_budget s m.before m.due changes) in
    let since_then : change.change.at ≡ t = change.is_then ∙ sym now in
    elim (cases_Bool (nat_le power (force plan t))) [
      | inl fits ↦
          let answer : m.answer ≡ Some (answers.Fits true) = asked ∙ ap (λ (b : Bool). Some (answers.Fits b)) fits in
          let same : hold s (after plan m) ≡ hold s m.before =
          subst (λ (a : Option Answer). hold s (after plan (record m { answer = a })) ≡ hold s m.before) (sym answer) either.keeps in
          let within : power ≤ force plan t = grind (arith, nat_tests) in
          kept n plan past m change.change is had step change.one since_then same within
      | inr over ↦
          let answer : m.answer ≡ Some (answers.Fits false) = asked ∙ ap (λ (b : Bool). Some (answers.Fits b)) over in
          let falls : hold s (after plan m) ≡ floor_of s =
          subst (λ (a : Option Answer). hold s (after plan (record m { answer = a })) ≡ floor_of s) (sym answer) either.sheds in
          shed plan past m step is_told falls counts
    ]

-- a move at a time keeps what counts within the budget of then
counts_step : (n : ℕ) (plan : Plan) (past : List Move) (m : Move) → IsPlan n plan → HaveHad plan past
    → ((q : ℕ) → RestsEmpty (standing plan past q).state) → Step plan past m → Counts plan past m.due.time
    → Counts plan (past ++ m ∷ []) m.due.time
counts_step n plan past m is had empty step counts =
    elim (cases_Bool (tells plan.forces m.due.time (slice_get (script_of plan m.port) (standing plan past m.port).taken))) [
      | inl is_told ↦ told n plan past m is had empty step is_told counts
      | inr is_not ↦ untold plan past m step is_not counts
    ]

-- What is kept along a run: the events that ports have had, that ports at rest hold nothing, and that at each time up to
-- which all is moved, what counts fits the budget.
record Keeps (plan : Plan) (past : List Move) : Type 0 where
  had : HaveHad plan past
  empty : (q : ℕ) → RestsEmpty (standing plan past q).state
  counts : (at : ℕ) → NoneLater at (count plan) past → NothingBefore plan past at → Counts plan past at

pub empty_step : (plan : Plan) (past : List Move) (m : Move) → GoesOn plan past m → ((q : ℕ) → RestsEmpty (standing plan past q).state)
    → (q : ℕ) → RestsEmpty (standing plan (past ++ m ∷ []) q).state
empty_step plan past m goes empty q =
    ⊎_elim
    (λ (same : m.port ≡ q).
    let rests : RestsEmpty m.before = subst RestsEmpty (sym goes.before_is) (empty m.port) in
    let next : RestsEmpty (after plan m) = empty_after (settings_of plan m.port) m.before m.due m.answer rests in
    subst (λ (s : Standing). RestsEmpty s.state) (sym (standing-same plan past m q same)) next)
    (λ (other : m.port ≢ q). subst (λ (s : Standing). RestsEmpty s.state) (sym (standing-other plan past m q other)) (empty q))
    (cases_eq m.port q)

keeps_step : (n : ℕ) (plan : Plan) (past : List Move) (m : Move) → IsPlan n plan → Keeps plan past → Step plan past m
    → Keeps plan (past ++ m ∷ [])
keeps_step n plan past m is keeps step =
    let t = m.due.time in
    let known = step.goes.known in
    let had = had_step plan past m keeps.had step.goes in
    let up : NoneLater t (count plan) past =
    none_later-raise t m.port t (count plan) past (record { by_time = omega arith; by_port = λ e. omega arith }) step.ordered in
    let before = keeps.counts t up (λ q d qn is_due. (step.first q d qn is_due).by_time) in
    let now = counts_step n plan past m is keeps.had keeps.empty step before in
    record {
      had = had;
      empty = empty_step plan past m step.goes keeps.empty;
      counts = λ at none nothing.
          let parts = split at (count plan) past m none in
          let le : t ≤ at = parts.1.by_time in
          let since_then : NoneLater t (count plan) (past ++ m ∷ []) =
          joined t (count plan) past m up (record { by_time = omega arith; by_port = λ e. omega arith }) in
          passes n plan (past ++ m ∷ []) t at is had since_then le nothing now;
    } where
      joined : (t p : ℕ) (past : List Move) (m : Move) → NoneLater t p past → IsNoLater m.due.time m.port t p
          → NoneLater t p (past ++ m ∷ [])
      joined t p [] m h k = (k, tt)
      joined t p (x ∷ xs) m h k = (h.0, joined t p xs m h.1 k)

-- at the start each port holds its floor
keeps_start : (n : ℕ) (plan : Plan) → IsPlan n plan → Keeps plan []
keeps_start n plan is = record {
  had = λ t p q i e none lt get. absurd (omega arith);
  empty = λ q. empty_detached (settings_of plan q);
  counts = λ at none nothing.
      let below = sum-below (all_counted plan [] at) (floors_of plan) (length-all_counted plan [] at ∙ sym (length-floors plan))
      (λ k lt.
      let kn : k < count plan = omega (arith, length-all_counted plan [] at) in
      omega (
        arith,
        counted_at plan [] at k kn,
        counted_less plan at k (standing plan [] k),
        hold_detached (settings_of plan k),
        floor_at plan k,
      )) in
      let funded = is.always_funded at in
      omega arith;
}

-- the first move of what is left isn't later than anything that is due
first_of_rest : (plan : Plan) (past : List Move) (x : Move) (xs : List Move) → Rest plan past (x ∷ xs) → (q : ℕ) (d : Due) → q < count plan
    → due_after plan past q ≡ Some d → IsNoLater x.due.time x.port d.time q
first_of_rest plan past x xs run q d lt is_due =
    ⊎_elim
    (λ (same : x.port ≡ q).
    let one : x.due ≡ d = same_Some _ _ (sym run.chained.0.due_is ∙ ap (due_after plan past) same ∙ is_due) in
    let time = ap (λ (y : Due). y.time) one in
    record { by_time = omega arith; by_port = λ e. omega arith })
    (λ (other : x.port ≢ q).
    elim (cases_lt plan.end d.time) [
      | inl late ↦ let soon = run.timely.0 in record { by_time = omega arith; by_port = λ e. absurd (omega arith) }
      | inr in_time ↦ first_first plan past x xs q d run lt other is_due in_time
    ])
    (cases_eq x.port q)

step_of_rest : (plan : Plan) (past : List Move) (x : Move) (xs : List Move) → Rest plan past (x ∷ xs) → Step plan past x
step_of_rest plan past x xs run = record {
  goes = run.chained.0;
  answered = run.answered.0;
  ordered = run.ordered.0;
  timely = run.timely.0;
  first = first_of_rest plan past x xs run;
}

-- after some of the moves of a run
record Halfway (plan : Plan) (past rest : List Move) : Type 0 where
  keeps : Keeps plan past
  left : Rest plan past rest

halfway : (n : ℕ) (plan : Plan) (past more rest : List Move) → IsPlan n plan → Rest plan past (more ++ rest) → Keeps plan past
    → Halfway plan (past ++ more) rest
halfway n plan past [] rest is run keeps =
    subst (λ (l : List Move). Halfway plan l rest) (sym (append-nil past)) (record { keeps = keeps; left = run })
halfway n plan past (m ∷ ms) rest is run keeps =
    let next = keeps_step n plan past m is keeps (step_of_rest plan past m (ms ++ rest) run) in
    subst (λ (l : List Move). Halfway plan l rest) (append_assoc past (m ∷ []) ms)
    (halfway n plan (past ++ m ∷ []) ms rest is (tail plan past m (ms ++ rest) run) next)

-- the moves of a run are of its ports
none_later : (plan : Plan) (past done : List Move) (at : ℕ) → EachAfter (GoesOn plan) past done → All (λ m. m.due.time ≤ at) done
    → NoneLater at (count plan) done
none_later plan past [] at goes h = tt
none_later plan past (m ∷ ms) at goes h =
    let head : m.due.time ≤ at = h 0 m (omega arith) in
    let known = goes.0.known in (
      record { by_time = head; by_port = λ e. omega arith },
      none_later plan (past ++ m ∷ []) ms at goes.1
          (λ k d lt. h (suc k) d (omega arith)),
    )

some_first : (plan : Plan) (past done rest : List Move) → EachAfter (GoesOn plan) past (done ++ rest) → EachAfter (GoesOn plan) past done
some_first plan past [] rest goes = tt
some_first plan past (m ∷ ms) rest goes = (goes.0, some_first plan (past ++ m ∷ []) ms rest goes.1)

-- all that is left is later, and so all that is due
later_due : (plan : Plan) (done rest : List Move) (at : ℕ) → Rest plan done rest → All (λ m. at < m.due.time) rest → at ≤ plan.end
    → (q : ℕ) (d : Due) → q < count plan → due_after plan done q ≡ Some d → at < d.time
later_due plan done [] at run later soon q d lt is_due =
    let end : plan.end < d.time = subst (λ (l : List Move). (e : Due) → due_after plan l q ≡ Some e → plan.end < e.time) (append-nil done)
    (run.complete q lt) d is_due in
    omega arith
later_due plan done (x ∷ xs) at run later soon q d lt is_due =
    let head : at < x.due.time = later 0 x (omega arith) in
    let first = (first_of_rest plan done x xs run q d lt is_due).by_time in
    omega arith

fits_at : (n : ℕ) (plan : Plan) (done rest : List Move) (at : ℕ) → IsPlan n plan → Run plan (done ++ rest) → EndsBetween at done rest
    → at ≤ plan.end → HoldsFit plan done at
fits_at n plan done rest at is run ends soon =
    let half = halfway n plan [] done rest is (whole plan (done ++ rest) run) (keeps_start n plan is) in
    let later = later_due plan done rest at half.left ends.later soon in
    let none = none_later plan [] done at (some_first plan [] done rest run.chained) ends.up_to in
    let counts = half.keeps.counts at none (λ q d lt is_due. let l = later q d lt is_due in omega arith) in
    record { within = all_held plan done at later counts; floored = floored plan done }

-- at the start each port holds its floor
fits_start : (n : ℕ) (plan : Plan) → IsPlan n plan → HoldsFit plan [] 0
fits_start n plan is =
    let below = sum-below (holds_after plan []) (floors_of plan) (length-holds_after plan [] ∙ sym (length-floors plan))
    (λ k lt.
    let kn : k < count plan = omega (arith, length-holds_after plan []) in
    omega (arith, hold_known plan [] k kn, hold_detached (settings_of plan k), floor_at plan k)) in
    let funded = is.always_funded 0 in
    record { within = omega arith; floored = floored plan [] }

holds_fit : (n : ℕ) (plan : Plan) (moves : List Move) → IsPlan n plan → Run plan moves → AtEnds (HoldsFit plan) plan moves
holds_fit n plan moves is run = λ done rest at e ends soon. fits_at n plan done rest at is (subst (Run plan) e run) ends soon

-- the contracts of a run fit at the end of each instant, since the holds do
pub contracts_fit : (n : ℕ) (plan : Plan) (moves : List Move) → IsPlan n plan → Run plan moves → AtEnds (ContractsFit plan) plan moves
contracts_fit n plan moves is run = λ done rest at e ends soon.
    let fits = (holds_fit n plan moves is run done rest at e ends soon).within in
    let less = contracts_held plan done in
    omega arith

-- the holds of a run fit at the end of each instant
pub fits_run : (n : ℕ) (plan : Plan) (moves : List Move) → IsPlan n plan → Run plan moves → IsWithin plan moves
fits_run n plan moves is run = record {
  at_start = fits_start n plan is;
  at_ends = holds_fit n plan moves is run;
  contracts_at_ends = contracts_fit n plan moves is run;
  after_each = floored_from plan [] moves;
}
