-- In a run each change of the budget up to the plan's end is a move of the first port.
use Rattle.std.proofs.Common.{◌≡◌, ◌≢◌, ℕ, zero, suc, ◌+◌, ◌-◌, ◌<◌, ◌≤◌, Bool, true, false, cond, List, [], ◌∷◌, ◌++◌}
use Rattle.std.proofs.Common.{get_or, Some, refl, sym, ap, ◌∙◌, subst, inl, inr, ⊎_elim, arith, append_assoc, slice_get}
use Rattle.std.specs.Prelude.{Contains}
use Rattle.std.proofs.lemmas.Bool.{cases_eq, cases_lt}
use Rattle.std.proofs.lemmas.List.{append-nil}
use Rattle.std.proofs.lemmas.Option.{same_Some, slice_get-get_or, slice_get_within}
use Rattle.pd_setup.specs.Events.{EventData}
use Rattle.pd_port.specs.declared.due.What.TheVariants as what
use Rattle.pd_port.specs.Happens.{is_budget}
use Rattle.pd_port.specs.Port.{due}
use Rattle.pd_port.proofs.BudgetLaws.{due_some}
use Rattle.pd_port.proofs.PortLaws.{due_event}
use Rattle.pd_scenario.specs.declared.budget.BudgetChange.{BudgetChange}
use Rattle.pd_scenario.specs.Plan.{IsFollowedBy, IsPlan, Plan, count, is_change, script_of, told_at}
use Rattle.pd_run.specs.Order.{EachAfter}
use Rattle.pd_run.specs.Run.{GoesOn, Move, Run, Standing, due_after, standing}
use Rattle.pd_run.proofs.Moves.{standing-other, standing-same}
use Rattle.pd_run.proofs.Scripts.{IsSorted}
use Rattle.pd_run.proofs.Steps.{some_event}

no_later : (e f : EventData) → IsFollowedBy e f → e.at ≤ f.at
no_later e f h =
    ⊎_elim (λ (before : e.at < f.at). omega arith)
    (λ (same : (e.at ≡ f.at) × (is_change f.happening ≡ false)). omega (arith, same.0)) h

-- what stands before an event of a script is no later
sorted_at : (script : List EventData) (i n : ℕ) (e f : EventData) → IsSorted script → slice_get script i ≡ Some e
    → slice_get script (i + n) ≡ Some f → e.at ≤ f.at
sorted_at script i zero e f sorted first second =
    let here : i + 0 ≡ i = omega arith in
    let same : e ≡ f = same_Some e f (sym first ∙ ap (slice_get script) (sym here) ∙ second) in
    let time = ap (λ (x : EventData). x.at) same in
    omega arith
sorted_at script i (suc n) e f sorted first second =
    let next : i + suc n ≡ (i + 1) + n = omega arith in
    let inside = slice_get_within script (i + suc n) f second in
    let g = get_or script (i + 1) e in
    let got : slice_get script (i + 1) ≡ Some g = slice_get-get_or script (i + 1) e (omega arith) in
    let rest = sorted_at script (i + 1) n g f sorted got (ap (slice_get script) (sym next) ∙ second) in
    let step = no_later e g (sorted i e g first got) in
    omega arith

-- a move of the run for an event
pub record Had (plan : Plan) (moves : List Move) (p : ℕ) (e : EventData) : Type 0 where
  pub earlier : List Move
  pub move : Move
  pub later : List Move
  pub moves_are : moves ≡ earlier ++ move ∷ later
  pub of_port : move.port ≡ p
  pub what_is : (f : EventData) × (move.due.what ≡ what.Event f) × (f ≡ e)
  pub on_time : move.due.time ≡ e.at

one_taken : (b : Bool) (taken j : ℕ) → taken ≤ j → j < cond b (taken + 1) taken → (b ≡ true) × (j ≡ taken)
one_taken true taken j low high = (refl, omega arith)
one_taken false taken j low high = absurd (omega arith)

-- an event of a script that the port has had by now and not before was had by a move since
had_since : (plan : Plan) (past ms : List Move) (p j : ℕ) (e : EventData) → EachAfter (GoesOn plan) past ms
    → slice_get (script_of plan p) j ≡ Some e → (standing plan past p).taken ≤ j → j < (standing plan (past ++ ms) p).taken
    → Had plan (past ++ ms) p e
had_since plan past [] p j e goes get low high =
    let same = ap (λ (l : List Move). (standing plan l p).taken) (append-nil past) in
    absurd (omega arith)
had_since plan past (m ∷ ms) p j e goes get low high =
    elim (cases_lt j (standing plan (past ++ m ∷ []) p).taken) [
      | inl now ↦ ⊎_elim
          (λ (port : m.port ≡ p).
          let here = ap (λ (s : Standing). s.taken) (standing-same plan past m p port) in
          let one = one_taken _ _ _ low (subst (λ n. j < n) here now) in
          let x = some_event m.due.what one.0 in
          let next = due_event _ _ m.due x.0 goes.0.due_is x.1 in
          let is : x.0 ≡ e =
          same_Some x.0 e
          (sym next.0 ∙ ap (λ q. slice_get (script_of plan q) (standing plan past q).taken) port
          ∙ ap (slice_get (script_of plan p)) (sym one.1) ∙ get) in
          record {
            earlier = past;
            move = m;
            later = ms;
            moves_are = refl;
            of_port = port;
            what_is = (x.0, x.1, is);
            on_time = next.1 ∙ ap (λ (y : EventData). y.at) is;
          })
          (λ (other : m.port ≢ p).
          let there = ap (λ (s : Standing). s.taken) (standing-other plan past m p other) in
          absurd (omega arith))
          (cases_eq m.port p)
      | inr not_now ↦
          let whole : (past ++ m ∷ []) ++ ms ≡ past ++ m ∷ ms = append_assoc past (m ∷ []) ms in
          subst (λ (l : List Move). Had plan l p e) whole
          (had_since plan (past ++ m ∷ []) ms p j e goes.1 get not_now
          (subst (λ (l : List Move). j < (standing plan l p).taken) (sym whole) high))
    ]

-- a run that is over has had each event up to its end
pub had_all : (plan : Plan) (moves : List Move) (p j : ℕ) (e : EventData) → IsSorted (script_of plan p) → Run plan moves → p < count plan
    → slice_get (script_of plan p) j ≡ Some e → e.at ≤ plan.end → Had plan moves p e
had_all plan moves p j e sorted run known get soon =
    elim (cases_lt j (standing plan moves p).taken) [
      | inl had ↦ had_since plan [] moves p j e run.chained get (omega arith) had
      | inr not_had ↦
          let script = script_of plan p in
          let taken = (standing plan moves p).taken in
          let inside = slice_get_within script j e get in
          let next = get_or script taken e in
          let got : slice_get script taken ≡ Some next = slice_get-get_or script taken e (omega arith) in
          let gap : taken + (j - taken) ≡ j = omega arith in
          let order = sorted_at script taken (j - taken) next e sorted got (ap (slice_get script) gap ∙ get) in
          let f = due_some (standing plan moves p).state next in
          let is_due : due_after plan moves p ≡ Some f.0 = ap (due (standing plan moves p).state) got ∙ f.1 in
          let late = run.complete p known f.0 is_due in
          let early = f.2 in
          absurd (omega arith)
    ]

-- So is each change of the budget up to the end told of.
pub change_had : (n : ℕ) (plan : Plan) (moves : List Move) (change : BudgetChange) → IsPlan n plan → Run plan moves
    → Contains plan.forces change → change.at ≤ plan.end → Had plan moves 0 (told_at change.at)
change_had n plan moves change is run there soon =
    let ports = is.settings_count in
    let some = is.some_port in
    let told = is.told 0 (omega arith) change there in
    let get : slice_get (script_of plan 0) told.0 ≡ Some (told_at change.at) =
    slice_get-get_or (script_of plan 0) told.0 (told_at change.at) told.1 ∙ ap Some told.2 in
    had_all plan moves 0 told.0 (told_at change.at) (is.in_order 0) run (omega arith) get soon

pub had_budget : (plan : Plan) (moves : List Move) (at : ℕ) → (h : Had plan moves 0 (told_at at)) → is_budget h.move.due.what ≡ true
had_budget plan moves at h =
    ap is_budget (h.what_is.1 ∙ ap what.Event h.what_is.2)
