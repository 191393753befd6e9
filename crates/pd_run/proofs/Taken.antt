-- A run up to a time: the events that its ports have had, and ports that are taken up again as they stand there.
use Rattle.std.proofs.Common.{◌≡◌, ◌≢◌, ℕ, zero, suc, ◌+◌, ◌<◌, ◌≤◌, ⊎_elim, Bool, List, [], ◌∷◌, ◌++◌, length, map, max, Some}
use Rattle.std.proofs.Common.{None, All, ap, sym, ◌∙◌, subst, inl, inr, arith, get_or, slice_get, slice_index, slice_index_or}
use Rattle.std.proofs.Common.{append_assoc, if◌then◌else◌}
use Rattle.std.proofs.lemmas.List.{append-nil, get_or_default, same_lists}
use Rattle.std.proofs.lemmas.List.Elements.{All-head, All-tail}
use Rattle.std.proofs.lemmas.List.FromFn.{get_or-map-range_with_len}
use Rattle.std.proofs.lemmas.Bool.{cases_lt, cases_eq, cases_Bool}
use Rattle.std.proofs.lemmas.Option.{slice_get_within}
use Rattle.std.proofs.Math.ListN as list_map
use Rattle.pd_setup.specs.Events.{EventData}
use Rattle.pd_port.specs.Port.{PortData, is_event, due, hold}
use Rattle.pd_port.proofs.PortLaws.{due_event, hold_floor}
use Rattle.pd_port.proofs.BudgetLaws.{due_some}
use Rattle.pd_scenario.specs.Plan.{Plan, IsPlan, count, settings_of, script_of, floors_of, no_settings}
use Rattle.pd_setup.specs.Settings.{floor_of}
use Rattle.pd_run.specs.Order.{EachAfter}
use Rattle.pd_run.specs.Run.{Move, Standing, standing, taken_after, due_after, holds_after, GoesOn, NoneLater}
use Rattle.pd_run.specs.Live.{LiveData, StandsAfter, port_after}
use Rattle.pd_run.specs.Start.{start_of, no_port}
use Rattle.pd_run.specs.UpTo.{IsUpTo, AreAfter, had_by}
use Rattle.pd_run.proofs.Moves.{standing-same, standing-other}
use Rattle.pd_run.proofs.Passing.{HaveHad, had_step}
use Rattle.pd_run.proofs.Runs.{runs_start}
use Rattle.pd_run.proofs.Steps.{some_event, length-holds_after}
use Rattle.pd_run.proofs.Until.{had_is}

-- what each move keeps is kept along them
each_kept : {X : Type 0} (Q : List X → Type 0) (P : List X → X → Type 0)
    → ((past : List X) (x : X) → Q past → P past x → Q (past ++ x ∷ [])) → (past rest : List X) → Q past → EachAfter P past rest
    → Q (past ++ rest)
each_kept {X} Q P step past [] q h = subst Q (sym (append-nil past)) q
each_kept {X} Q P step past (x ∷ xs) q h =
    subst Q (append_assoc past (x ∷ []) xs) (each_kept Q P step (past ++ x ∷ []) xs (step past x q h.0) h.1)

have_had : (plan : Plan) (past : List Move) → EachAfter (GoesOn plan) [] past → HaveHad plan past
have_had plan past chained =
    each_kept (HaveHad plan) (GoesOn plan) (had_step plan) [] past (λ t p q i e none lt get. absurd (omega arith)) chained

-- a port has had no more events than its script has
abbrev pub HasRoom : Plan → List Move → Type 0
HasRoom plan past = (q : ℕ) → (standing plan past q).taken ≤ length (script_of plan q)

room_step : (plan : Plan) (past : List Move) (m : Move) → HasRoom plan past → GoesOn plan past m → HasRoom plan (past ++ m ∷ [])
room_step plan past m room goes = λ q.
    let old = room q in
    let t = (standing plan past q).taken in
    ⊎_elim
    (λ (same : m.port ≡ q).
    let here : (standing plan (past ++ m ∷ []) q).taken ≡ taken_after t m.due =
    ap (λ (s : Standing). s.taken) (standing-same plan past m q same) in
    elim (cases_Bool (is_event m.due.what)) [
      | inl ev ↦
          let x = some_event m.due.what ev in
          let next = due_event _ _ m.due x.0 goes.due_is x.1 in
          let get : slice_get (script_of plan q) t ≡ Some x.0 =
          subst (λ k. slice_get (script_of plan k) (standing plan past k).taken ≡ Some x.0) same next.0 in
          let inside = slice_get_within (script_of plan q) t x.0 get in
          let one : taken_after t m.due ≡ t + 1 = ap (λ (b : Bool). if b then t + 1 else t) ev in
          omega arith
      | inr isnt ↦ let none : taken_after t m.due ≡ t = ap (λ (b : Bool). if b then t + 1 else t) isnt in omega arith
    ])
    (λ (other : m.port ≢ q).
    let there : (standing plan (past ++ m ∷ []) q).taken ≡ t = ap (λ (s : Standing). s.taken) (standing-other plan past m q other) in
    omega arith)
    (cases_eq m.port q)

has_room : (plan : Plan) (past : List Move) → EachAfter (GoesOn plan) [] past → HasRoom plan past
has_room plan past chained = each_kept (HasRoom plan) (GoesOn plan) (room_step plan) [] past (λ q. omega arith) chained

-- moves before a time aren't later than the time before it
none_later : (plan : Plan) (t : ℕ) (past rest : List Move) → EachAfter (GoesOn plan) past rest → All (λ m. m.due.time < suc t) rest
    → NoneLater t (count plan) rest
none_later plan t past [] h earlier = tt
none_later plan t past (m ∷ ms) h earlier =
    let first = All-head (λ (x : Move). x.due.time < suc t) m ms earlier in
    let known = h.0.known in (
      record { by_time = omega arith; by_port = λ e. omega arith },
      none_later plan t (past ++ m ∷ []) ms h.1 (All-tail (λ (x : Move). x.due.time < suc t) m ms earlier),
    )

-- the events that were had are before a time, as the moves are
had_before : (plan : Plan) (past : List Move) (at q i : ℕ) (e : EventData) → EachAfter (GoesOn plan) [] past
    → All (λ m. m.due.time < at) past → i < (standing plan past q).taken → slice_get (script_of plan q) i ≡ Some e → e.at < at
had_before plan [] at q i e chained earlier lt get = absurd (omega arith)
had_before plan (m ∷ ms) zero q i e chained earlier lt get =
    absurd (let first = All-head (λ (x : Move). x.due.time < 0) m ms earlier in omega arith)
had_before plan (m ∷ ms) (suc t) q i e chained earlier lt get =
    let past : List Move = m ∷ ms in
    let k = (have_had plan past chained t (count plan) q i e (none_later plan t [] past chained earlier) lt get).by_time in
    omega arith

-- nothing is due before the time, and so no event that is still to come
none_before : (plan : Plan) (past : List Move) (at p : ℕ) (e : EventData) → IsUpTo plan past at → at ≤ plan.end → p < count plan
    → slice_get (script_of plan p) (standing plan past p).taken ≡ Some e → at ≤ e.at
none_before plan past at p e up within lt get =
    let f = due_some (standing plan past p).state e in
    let no_later = f.2 in
    let is_due : due_after plan past p ≡ Some f.0 = ap (due (standing plan past p).state) get ∙ f.1 in
    elim (cases_lt plan.end f.0.time) [
      | inl late ↦ omega arith
      | inr soon ↦ let k = up.passed p f.0 lt is_due soon in omega arith
    ]

-- In a run up to a time each port has had the events before it.
pub taken_is : (plan : Plan) (past : List Move) (at p : ℕ) → IsUpTo plan past at → at ≤ plan.end → p < count plan
    → (standing plan past p).taken ≡ had_by at (script_of plan p)
taken_is plan past at p up within lt =
    had_is at (script_of plan p) (standing plan past p).taken (has_room plan past up.runs.chained p)
    (λ i e below get. had_before plan past at p i e up.runs.chained up.earlier below get)
    (λ e get. none_before plan past at p e up within lt get)

-- the start is a run up to time 0
pub IsUpTo-start : (plan : Plan) → IsUpTo plan [] 0
IsUpTo-start plan = record {
  runs = runs_start plan;
  earlier = λ k d lt. absurd (omega arith);
  passed = λ p d lt is soon. omega arith;
}

pub AreAfter-start : (plan : Plan) (ports : List PortData) → ports ≡ map start_of plan.settings → AreAfter plan [] ports
AreAfter-start plan ports is = λ p lt.
    ap (λ (l : List PortData). get_or l p no_port) is ∙ list_map.get_or-map start_of plan.settings p no_settings

-- What ports hold, how many events are before a time, and what falls due after these, where they stand.
pub record AreResumed (n : ℕ) (plan : Plan) (at : ℕ) (live : LiveData) : Type 0 where
  pub ports_count : length live.ports ≡ n
  pub taken_count : length live.taken ≡ n
  pub dues_count : length live.dues ≡ n
  pub holds_count : length live.account.holds ≡ n
  pub taken_are : (p : ℕ) → p < n → slice_index live.taken p ≡ had_by at (script_of plan p)
  pub dues_are : (p : ℕ) → p < n → slice_index_or live.dues p None
      ≡ due (slice_index_or live.ports p no_port).port_record (slice_get (script_of plan p) (slice_index live.taken p))
  pub floors_are : live.account.floors ≡ floors_of plan
  pub holds_are : (p : ℕ) → p < n → slice_index live.account.holds p ≡ max (slice_index (floors_of plan) p)
      (hold (slice_index_or live.ports p no_port).settings (slice_index_or live.ports p no_port).port_record)

-- a hold is at least its floor
held : (plan : Plan) (past : List Move) (p : ℕ) (x : PortData) → x ≡ port_after plan past p
    → max (slice_index (floors_of plan) p) (hold x.settings x.port_record) ≡ hold (settings_of plan p) (standing plan past p).state
held plan past p x is =
    let here : hold x.settings x.port_record ≡ hold (settings_of plan p) (standing plan past p).state =
    ap (λ (z : PortData). hold z.settings z.port_record) is in
    let floor : slice_index (floors_of plan) p ≡ floor_of (settings_of plan p) = list_map.get_or-map floor_of plan.settings p no_settings in
    let least = hold_floor (settings_of plan p) (standing plan past p).state in
    omega arith

-- what ports hold that stand after these moves
pub holds_resumed : (n : ℕ) (plan : Plan) (past : List Move) (ports : List PortData) (holds : List ℕ) → count plan ≡ n
    → length holds ≡ n → AreAfter plan past ports
    → ((p : ℕ) → p < n → slice_index holds p ≡ max (slice_index (floors_of plan) p)
    (hold (slice_index_or ports p no_port).settings (slice_index_or ports p no_port).port_record))
    → holds ≡ holds_after plan past
holds_resumed n plan past ports holds counts length_is after are =
    same_lists holds (holds_after plan past) (length_is ∙ sym counts ∙ sym (length-holds_after plan past))
    (λ k d lt.
    let kn : k < count plan = omega (arith, length_is, counts) in
    get_or_default holds k d 0 lt ∙ are k (omega arith)
    ∙ held plan past k (slice_index_or ports k no_port) (after k kn)
    ∙ sym (get_or-map-range_with_len (λ i. hold (settings_of plan i) (standing plan past i).state) 0 (count plan) k k d kn
    (omega arith)))

-- ports that stand after a run up to the time go on from there
pub StandsAfter-resumed : (n : ℕ) (plan : Plan) (past : List Move) (at : ℕ) (live : LiveData) → IsPlan n plan → at ≤ plan.end
    → IsUpTo plan past at → AreAfter plan past live.ports → AreResumed n plan at live → StandsAfter plan past live
StandsAfter-resumed n plan past at live is within up after r =
    let ports = is.settings_count in
    let taken : (p : ℕ) → p < count plan → slice_index live.taken p ≡ (standing plan past p).taken =
    λ p lt. r.taken_are p (omega arith) ∙ sym (taken_is plan past at p up within lt) in
    record {
      runs = up.runs;
      ports_count = r.ports_count ∙ sym ports;
      taken_count = r.taken_count ∙ sym ports;
      ports_are = after;
      taken_are = taken;
      dues_count = r.dues_count ∙ sym ports;
      dues_are = λ p lt. r.dues_are p (omega arith)
          ∙ ap (λ (x : PortData). due x.port_record (slice_get (script_of plan p) (slice_index live.taken p))) (after p lt)
          ∙ ap (λ t. due (standing plan past p).state (slice_get (script_of plan p) t)) (taken p lt);
      floors_are = r.floors_are;
      holds_are = holds_resumed n plan past live.ports live.account.holds ports r.holds_count after r.holds_are;
    }
