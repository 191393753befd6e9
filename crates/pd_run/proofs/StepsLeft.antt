-- A run ends: each move leaves less to do.
use Rattle.std.proofs.Common.{◌≡◌, ◌≢◌, ℕ, ◌+◌, ◌-◌, ◌*◌, ◌<◌, ◌≤◌, ⊎_elim, List, [], ◌∷◌, ◌++◌, length, map, sum, Option, Some}
use Rattle.std.proofs.Common.{None, true, false, Bool, refl, ap, sym, ◌∙◌, arith, slice_index, slice_set, slice_get, leb}
use Rattle.std.proofs.Common.{if◌then◌else◌}
use Rattle.std.specs.List.{range_with_len}
use Rattle.std.proofs.lemmas.List.{same_lists}
use Rattle.std.proofs.lemmas.List.FromFn.{get_or-map-range_with_len, length-map-range_with_len}
use Rattle.std.proofs.lemmas.Bool.{cases_eq}
use Rattle.std.proofs.lemmas.Bool.Decides.{nat_tests}
use Rattle.std.proofs.lemmas.Option.{slice_get_within}
use Rattle.pd_objects.specs.declared.query.Answer.{Answer}
use Rattle.pd_port.specs.declared.due.Due.{Due}
use Rattle.pd_port.specs.declared.due.What.{What}
use Rattle.pd_port.specs.declared.due.What.TheVariants as what
use Rattle.pd_port.specs.Port.{PortRecord, PortData, is_event, due, record_after}
use Rattle.pd_port.specs.Laws.{pending}
use Rattle.pd_port.proofs.PortLaws.{due_event, pending_few, pending_timer, pending_event}
use Rattle.pd_ledger.proofs.Sums.{sum-set}
use Rattle.pd_scenario.specs.Plan.{Plan, IsPlan, count, settings_of, script_of}
use Rattle.pd_run.specs.Run.{Move, Standing, standing, moved, after, taken_after, due_after, due_from}
use Rattle.pd_run.specs.Live.{LiveData, StandsAfter, IsFirst, next_move}
use Rattle.pd_run.specs.StepsLeft.{steps_left_from, steps_left_at, steps_left_of, steps_left}
use Rattle.pd_run.proofs.Moves.{standing-same, standing-other}
use Rattle.pd_run.proofs.Steps.{table-set}
use Rattle.pd_run.proofs.Runs.{due_after-same}

-- what is left to do on all ports after these moves
abbrev pub steps_left_after : Plan → List Move → ℕ
steps_left_after plan moves = sum (map (λ p. steps_left_of plan p (standing plan moves p)) (range_with_len 0 (count plan)))

table-same : {X : Type 0} (f g : ℕ → X) (n : ℕ) → ((k : ℕ) → k < n → f k ≡ g k) → map f (range_with_len 0 n) ≡ map g (range_with_len 0 n)
table-same {X} f g n h =
    let fs = length-map-range_with_len f 0 n in
    same_lists (map f (range_with_len 0 n)) (map g (range_with_len 0 n)) (fs ∙ sym (length-map-range_with_len g 0 n))
    (λ k d lt. let kn : k < n = omega arith in get_or-map-range_with_len f 0 n k k d kn (omega arith) ∙ h k kn
    ∙ sym (get_or-map-range_with_len g 0 n k k d kn (omega arith)))

-- the two are one
pub steps_left_known : (plan : Plan) (past : List Move) (live : LiveData) → StandsAfter plan past live
    → steps_left plan live ≡ steps_left_after plan past
steps_left_known plan past live s =
    ap sum (table-same _ _ (count plan) (λ k lt.
    ap (λ (x : PortData). steps_left_of plan k (record { state = x.port_record; taken = slice_index live.taken k })) (s.ports_are k lt)
    ∙ ap (λ t. steps_left_of plan k (record { state = (standing plan past k).state; taken = t })) (s.taken_are k lt)))

-- an event or a deadline is used up
pub used : (plan : Plan) (p t : ℕ) (r : PortRecord) (d : Due) (a : Option Answer) → due r (slice_get (script_of plan p) t) ≡ Some d
    → pending (record_after (settings_of plan p) r d a) d.time + (length (script_of plan p) - taken_after t d) < pending r
    d.time + (length (script_of plan p) - t)
used plan p t r d a e = cases d.what refl where
  kept : is_event d.what ≡ false
      → pending (record_after (settings_of plan p) r d a) d.time + (length (script_of plan p) - taken_after t d) < pending r
      d.time + (length (script_of plan p) - t)
  kept h =
      let falls = pending_timer (settings_of plan p) r (slice_get (script_of plan p) t) d a e h in
      let same : taken_after t d ≡ t = ap (λ (b : Bool). if b then t + 1 else t) h in
      omega arith

  cases : (w : What) → d.what ≡ w
      → pending (record_after (settings_of plan p) r d a) d.time + (length (script_of plan p) - taken_after t d) < pending r
      d.time + (length (script_of plan p) - t)
  cases what.Line h = kept (ap is_event h)
  cases (what.Timer side timer) h = kept (ap is_event h)
  cases (what.Event x) h =
      let has = due_event r (slice_get (script_of plan p) t) d x e h in
      let inside = slice_get_within (script_of plan p) t x has.0 in
      let more : taken_after t d ≡ t + 1 = ap (λ (b : Bool). if b then t + 1 else t) (ap is_event h) in
      let no_more = pending_event (settings_of plan p) r d a in
      omega arith

from_falls : (plan : Plan) (p t u w : ℕ) (r : PortRecord) (f : Due) → t ≤ f.time → t ≤ plan.end
    → (f.time ≡ t → pending r f.time + (length (script_of plan p) - u) < w) → length (script_of plan p) - u ≤ w
    → steps_left_from plan p r u f < (plan.end + 1 - t) * 65 + w
from_falls plan p t u w r f le soon same less = cases (leb f.time plan.end) refl where
  cases : (b : Bool) → leb f.time plan.end ≡ b
      → (if b then (plan.end + 1 - f.time) * 65 + pending r f.time + (length (script_of plan p) - u) else 0) < (plan.end + 1 - t) * 65 + w
  cases false h = omega arith
  cases true h =
      let few = pending_few r f.time in
      let early : f.time ≤ plan.end = grind (arith, nat_tests) in
      ⊎_elim
      (λ (e : f.time ≡ t). omega (arith, same e))
      (λ (ne : f.time ≢ t). omega arith)
      (cases_eq f.time t)

at_falls : (plan : Plan) (p t u w : ℕ) (r : PortRecord) (o : Option Due) → t ≤ plan.end → ((f : Due) → o ≡ Some f → t ≤ f.time)
    → (pending r t + (length (script_of plan p) - u) < w) → steps_left_at plan p r u o < (plan.end + 1 - t) * 65 + w
at_falls plan p t u w r None soon later less = omega arith
at_falls plan p t u w r (Some f) soon later less =
    from_falls plan p t u w r f (later f refl) soon (λ e. rw e less) (omega arith)

-- a move leaves less to do
pub steps_left_falls : (n : ℕ) (plan : Plan) (past : List Move) (p : ℕ) (d : Due) → IsPlan n plan → p < count plan
    → due_after plan past p ≡ Some d → d.time ≤ plan.end
    → steps_left_after plan (past ++ next_move plan past p d ∷ []) < steps_left_after plan past
steps_left_falls n plan past p d is lt e soon =
    let m : Move = next_move plan past p d in
    let f : ℕ → ℕ = λ k. steps_left_of plan k (standing plan past k) in
    let g : ℕ → ℕ = λ k. steps_left_of plan k (standing plan (past ++ m ∷ []) k) in
    let xs : List ℕ = map f (range_with_len 0 (count plan)) in
    let here : standing plan (past ++ m ∷ []) p ≡ moved plan (standing plan past p) m = standing-same plan past m p refl in
    let table : slice_set xs p (g p) ≡ map g (range_with_len 0 (count plan)) =
    table-set f g (count plan) p (g p) lt (λ k ne. ap (steps_left_of plan k) (standing-other plan past m k (λ x. ne (sym x)))) refl in
    let at : slice_index xs p ≡ f p = get_or-map-range_with_len f 0 (count plan) p p 0 lt (omega arith) in
    let length_is : length xs ≡ count plan = length-map-range_with_len f 0 (count plan) in
    let sums = sum-set xs p (g p) (omega arith) in
    let s : Standing = standing plan past p in
    let before : f p ≡ steps_left_from plan p s.state s.taken d = ap (steps_left_at plan p s.state s.taken) e in
    let full : steps_left_from plan p s.state s.taken d ≡ (plan.end + 1 - d.time) * 65 + pending s.state
    d.time + (length (script_of plan p) - s.taken) = grind (arith, nat_tests) in
    let moved_is : g p ≡ steps_left_of plan p (moved plan s m) = ap (steps_left_of plan p) here in
    let less = used plan p s.taken s.state d m.answer e in
    let falls = at_falls plan p d.time (taken_after s.taken d) (pending s.state d.time + (length (script_of plan p) - s.taken))
    (after plan m) (due_from plan (moved plan s m) p) soon
    (λ x h. due_after-same n plan past p d x is e (ap (λ (z : Standing). due_from plan z p) here ∙ h)) less in
    let fall : g p < f p = omega arith in
    let total = ap sum table in
    omega arith

-- a move leaves less to do
pub steps_left_less : (n : ℕ) (plan : Plan) (past : List Move) (live new : LiveData) (p : ℕ) (d : Due) → IsPlan n plan
    → StandsAfter plan past live
    → IsFirst plan live p d → StandsAfter plan (past ++ next_move plan past p d ∷ []) new → steps_left plan new < steps_left plan live
steps_left_less n plan past live new p d is stands first stood =
    let before = steps_left_known plan past live stands in
    let after = steps_left_known plan (past ++ next_move plan past p d ∷ []) new stood in
    let due = sym (stands.dues_are p first.known) ∙ first.is_due in
    let falls = steps_left_falls n plan past p d is first.known due first.soon in
    omega arith
