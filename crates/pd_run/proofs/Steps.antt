-- What the ports, the events that they have had and the budget are after one more move.
use Rattle.std.proofs.Common.{◌≡◌, ◌≢◌, ℕ, ◌+◌, ◌<◌, ◌≤◌, ⊎_elim, List, [], ◌∷◌, ◌++◌, length, map, max, Option, Some, None}
use Rattle.std.proofs.Common.{option_map, ◌-◌}
use Rattle.std.proofs.Common.{true, refl, ap, sym, ◌∙◌, subst, arith, get_or, slice_index, slice_set, slice_get}
use Rattle.std.proofs.Common.{set}
use Rattle.std.specs.List.{range_with_len}
use Rattle.std.proofs.lemmas.List.{get_or-set_same}
use Rattle.std.proofs.lemmas.List.{get_or-set_other, length-set, same_lists}
use Rattle.std.proofs.Math.ListN as list_map
use Rattle.std.proofs.lemmas.Option.{slice_get_within}
use Rattle.std.proofs.lemmas.List.FromFn.{get_or-map-range_with_len, length-map-range_with_len}
use Rattle.std.proofs.lemmas.Bool.{cases_eq}
use Rattle.pd_objects.specs.declared.query.Answer.{Answer}
use Rattle.pd_setup.specs.Settings.{floor_of}
use Rattle.pd_setup.specs.Events.{EventData}
use Rattle.pd_port.specs.declared.due.Due.{Due}
use Rattle.pd_port.specs.declared.due.What.{What}
use Rattle.pd_port.specs.declared.due.What.TheVariants as what
use Rattle.pd_port.specs.Port.{PortData, is_event, due, ask, hold, record_after}
use Rattle.pd_port.proofs.PortLaws.{due_event, hold_fits, hold_floor}
use Rattle.pd_ledger.specs.Account.{Account, free_of}
use Rattle.pd_ledger.specs.Offer.{answer_of}
use Rattle.pd_ledger.proofs.Offers.{answer-allowed}
use Rattle.pd_scenario.specs.Plan.{Plan, IsPlan, count, settings_of, script_of, force, no_settings}
use Rattle.pd_run.specs.Run.{Move, Standing, standing, moved, after, taken_after, due_after, account_after, holds_after, reply_after}
use Rattle.pd_run.specs.Start.{no_port}
use Rattle.pd_run.specs.Live.{LiveData, RunsTo, StandsAfter, IsNext, at_budget, due_at, next_move, port_at, port_after}
use Rattle.pd_run.specs.Live.{reply_at, moved_port, moved_live, asked_due, HasMoved, IsNextBeside, HasMovedBeside}
use Rattle.pd_run.proofs.Moves.{standing-same, standing-other, due_after-other}
use Rattle.pd_run.proofs.Runs.{runs_step}

-- a table with one entry changed
pub table-set : {X : Type 0} (f g : ℕ → X) (n p : ℕ) (y : X) → p < n → ((k : ℕ) → k ≢ p → g k ≡ f k) → g p ≡ y
    → set (map f (range_with_len 0 n)) p y ≡ map g (range_with_len 0 n)
table-set {X} f g n p y lt others here =
    let fs = length-map-range_with_len f 0 n in
    let gs = length-map-range_with_len g 0 n in
    let xs : List X = map f (range_with_len 0 n) in
    same_lists (set xs p y) (map g (range_with_len 0 n)) (length-set xs p y ∙ fs ∙ sym gs)
    (λ k d h.
    let kn : k < n = omega (arith, length-set xs p y) in
    let at_g : get_or (map g (range_with_len 0 n)) k d ≡ g k = get_or-map-range_with_len g 0 n k k d kn (omega arith) in
    ⊎_elim
    (λ (same : k ≡ p).
    let inside : p < length xs = omega arith in
    ap (λ i. get_or (set xs p y) i d) same ∙ get_or-set_same xs p y d inside ∙ sym here ∙ sym (at_g ∙ ap g same))
    (λ (other : k ≢ p). get_or-set_other xs p k y d other ∙ get_or-map-range_with_len f 0 n k k d kn (omega arith)
    ∙ sym (others k other) ∙ sym at_g)
    (cases_eq k p))

-- the budget's hold is the port's
pub hold_known : (plan : Plan) (past : List Move) (p : ℕ) → p < count plan
    → slice_index (holds_after plan past) p ≡ hold (settings_of plan p) (standing plan past p).state
hold_known plan past p lt = get_or-map-range_with_len (λ k. hold (settings_of plan k) (standing plan past k).state) 0 (count plan) p
    p 0 lt (omega arith)

pub length-holds_after : (plan : Plan) (past : List Move) → length (holds_after plan past) ≡ count plan
length-holds_after plan past = length-map-range_with_len (λ k. hold (settings_of plan k) (standing plan past k).state) 0 (count plan)

-- the shared budget, as these moves leave it at a time
pub account_known : (plan : Plan) (past : List Move) (live : LiveData) (at : ℕ) → StandsAfter plan past live
    → live.account.budget ≡ force plan at → live.account ≡ account_after plan past at
account_known plan past live at s budget_is = λ i. record { budget = budget_is i; floors = s.floors_are i; holds = s.holds_are i }

-- the hold after a move is no more than was free, or than it was
pub hold_after-fits : (plan : Plan) (past : List Move) (live : LiveData) (p : ℕ) (d : Due) → StandsAfter plan past live
    → live.account.budget ≡ force plan d.time → p < count plan →
    hold (settings_of plan p) (after plan (next_move plan past p d)) ≤ max (free_of live.account p) (slice_index live.account.holds p)
hold_after-fits plan past live p d s budget_is lt =
    let account = account_after plan past d.time in
    let fits = hold_fits (settings_of plan p) (standing plan past p).state d
    (reply_after plan past d.time p (ask (settings_of plan p) (standing plan past p).state d)) (free_of account p)
    (answer-allowed account p _) in
    let known : hold (settings_of plan p) (after plan (next_move plan past p d)) ≤ max (free_of account p) (slice_index account.holds p) =
    omega (arith, hold_known plan past p lt, fits) in
    subst (λ (l : Account). hold (settings_of plan p) (after plan (next_move plan past p d)) ≤ max (free_of l p) (slice_index l.holds p))
    (sym (account_known plan past live d.time s budget_is)) known

-- with another budget all of it stands
pub StandsAfter-budget : (plan : Plan) (past : List Move) (live : LiveData) (budget : ℕ) → StandsAfter plan past live
    → StandsAfter plan past (at_budget live budget)
StandsAfter-budget plan past live budget s = record {
  runs = s.runs;
  ports_count = s.ports_count;
  taken_count = s.taken_count;
  ports_are = s.ports_are;
  taken_are = s.taken_are;
  dues_count = s.dues_count;
  dues_are = s.dues_are;
  floors_are = s.floors_are;
  holds_are = s.holds_are;
}

-- and the same port is the next
pub IsNext-budget : (plan : Plan) (live : LiveData) (port : ℕ) (d : Due) (budget : ℕ) → IsNext plan live port d
    → IsNext plan (at_budget live budget) port d
IsNext-budget plan live port d budget h = record {
  from_one = h.from_one;
  first = record { known = h.first.known; is_due = h.first.is_due; soon = h.first.soon; least = h.first.least };
}

-- so both hold where a port has been asked, which leaves all but the budget
pub StandsAfter-asked : (plan : Plan) (past : List Move) (live asked : LiveData) (at : ℕ) → asked ≡ at_budget live (force plan at)
    → StandsAfter plan past live → StandsAfter plan past asked
StandsAfter-asked plan past live asked at is s =
    subst (λ (l : LiveData). StandsAfter plan past l) (sym is) (StandsAfter-budget plan past live (force plan at) s)

pub IsNext-asked : (plan : Plan) (live asked : LiveData) (port : ℕ) (d : Due) → asked ≡ at_budget live (force plan d.time)
    → IsNext plan live port d → IsNext plan asked port d
IsNext-asked plan live asked port d is next =
    subst (λ (l : LiveData). IsNext plan l port d) (sym is) (IsNext-budget plan live port d (force plan d.time) next)

-- all of it after one more move
pub StandsAfter-step : (plan : Plan) (past : List Move) (live : LiveData) (p : ℕ) (d : Due) (port : PortData) (more : List ℕ)
    (next : Option Due) (h : ℕ) → StandsAfter plan past live → RunsTo plan (past ++ next_move plan past p d ∷ []) → p < count plan
    → port ≡ port_after plan (past ++ next_move plan past p d ∷ []) p → length more ≡ length live.taken
    → slice_index more p ≡ taken_after (slice_index live.taken p) d
    → ((k : ℕ) → k ≢ p → slice_index more k ≡ slice_index live.taken k)
    → next ≡ due port.port_record (slice_get (script_of plan p) (taken_after (slice_index live.taken p) d))
    → h ≡ hold (settings_of plan p) (after plan (next_move plan past p d))
    → StandsAfter plan (past ++ next_move plan past p d ∷ []) (record {
      ports = slice_set live.ports p port;
      taken = more;
      dues = slice_set live.dues p next;
      account = record live.account { holds = slice_set live.account.holds p h };
    })
StandsAfter-step plan past live p d port more next h s runs lt port_is counted at_p at_others next_is h_is =
    let m : Move = next_move plan past p d in
    let ports : List PortData = live.ports in
    let dues : List (Option Due) = live.dues in
    let here : standing plan (past ++ m ∷ []) p ≡ moved plan (standing plan past p) m = standing-same plan past m p refl in
    let others : (k : ℕ) → k ≢ p → standing plan (past ++ m ∷ []) k ≡ standing plan past k =
    λ k ne. standing-other plan past m k (λ e. ne (sym e)) in
    let inside : p < length ports = omega (arith, s.ports_count) in
    let inside_dues : p < length dues = omega (arith, s.dues_count) in
    let used : taken_after (slice_index live.taken p) d ≡ (standing plan (past ++ m ∷ []) p).taken =
    ap (λ t. taken_after t d) (s.taken_are p lt) ∙ ap (λ (x : Standing). x.taken) (sym here) in
    let due_is : next ≡ due_after plan (past ++ m ∷ []) p =
    next_is ∙ ap (λ (x : PortData). due x.port_record (slice_get (script_of plan p) (taken_after (slice_index live.taken p) d))) port_is
    ∙ ap (λ t. due (standing plan (past ++ m ∷ []) p).state (slice_get (script_of plan p) t)) used in
    let holds : slice_set (holds_after plan past) p h ≡ holds_after plan (past ++ m ∷ []) =
    table-set _ _ (count plan) p h lt (λ k ne. ap (λ (x : Standing). hold (settings_of plan k) x.state) (others k ne))
    (ap (λ (x : Standing). hold (settings_of plan p) x.state) here ∙ sym h_is) in
    record {
      runs = runs;
      ports_count = length-set ports p port ∙ s.ports_count;
      taken_count = counted ∙ s.taken_count;
      ports_are = λ k kn.
          ⊎_elim
          (λ (same : k ≡ p). ap (λ i. get_or (set ports p port) i no_port) same ∙ get_or-set_same ports p port no_port inside
          ∙ port_is ∙ ap (λ i. port_after plan (past ++ m ∷ []) i) (sym same))
          (λ (other : k ≢ p). get_or-set_other ports p k port no_port other ∙ s.ports_are k kn
          ∙ ap (λ (x : Standing). record { settings = settings_of plan k; port_record = x.state }) (sym (others k other)))
          (cases_eq k p);
      taken_are = λ k kn.
          ⊎_elim
          (λ (same : k ≡ p). ap (slice_index more) same ∙ at_p ∙ used ∙ ap (λ i. (standing plan (past ++ m ∷ []) i).taken) (sym same))
          (λ (other : k ≢ p). at_others k other ∙ s.taken_are k kn ∙ ap (λ (x : Standing). x.taken) (sym (others k other)))
          (cases_eq k p);
      dues_count = length-set dues p next ∙ s.dues_count;
      dues_are = λ k kn.
          ⊎_elim
          (λ (same : k ≡ p). ap (λ i. get_or (set dues p next) i None) same ∙ get_or-set_same dues p next None inside_dues
          ∙ due_is ∙ ap (due_after plan (past ++ m ∷ [])) (sym same))
          (λ (other : k ≢ p). get_or-set_other dues p k next None other ∙ s.dues_are k kn
          ∙ sym (due_after-other plan past m k (λ e. other (sym e))))
          (cases_eq k p);
      floors_are = s.floors_are;
      holds_are = ap (λ hs. slice_set hs p h) s.holds_are ∙ holds;
    }

-- a floor of the account is the port's
pub floor_known : (plan : Plan) (past : List Move) (live : LiveData) (p : ℕ) → StandsAfter plan past live
    → slice_index live.account.floors p ≡ floor_of (settings_of plan p)
floor_known plan past live p s = ap (λ hs. slice_index hs p) s.floors_are ∙ list_map.get_or-map floor_of plan.settings p no_settings

-- an event that falls due is the next one
pub some_event : (w : What) → is_event w ≡ true → (e : EventData) × (w ≡ what.Event e)
some_event (what.Event e) h = (e, refl)
some_event what.Line h = cc
some_event (what.Timer side timer) h = cc

-- a script isn't used up where an event falls due
pub taken_few : (n : ℕ) (plan : Plan) (past : List Move) (live : LiveData) (p : ℕ) (d : Due) → IsPlan n plan
    → StandsAfter plan past live → p < count plan → due_at live p ≡ Some d → is_event d.what ≡ true → slice_index live.taken p < 1000000
taken_few n plan past live p d is s lt du ev =
    let e = some_event d.what ev in
    let next = due_event _ _ d e.0 (sym (s.dues_are p lt) ∙ du) e.1 in
    let inside = slice_get_within (script_of plan p) (standing plan past p).taken e.0 next.0 in
    omega (arith, is.brief p (omega (arith, is.settings_count)), s.taken_are p lt)

-- the answer by the ports is the answer after the moves
pub reply_known : (plan : Plan) (past : List Move) (live : LiveData) (p : ℕ) (d : Due) → StandsAfter plan past live
    → live.account.budget ≡ force plan d.time → p < count plan → reply_at live p d ≡ (next_move plan past p d).answer
reply_known plan past live p d s budget_is lt =
    ap (λ (x : PortData). option_map (answer_of live.account p) (ask x.settings x.port_record d)) (s.ports_are p lt)
    ∙ ap (λ (l : Account). option_map (answer_of l p) (ask (settings_of plan p) (standing plan past p).state d))
    (account_known plan past live d.time s budget_is)

-- the port as its move leaves it, by the moves
pub moved_known : (plan : Plan) (past : List Move) (live : LiveData) (p : ℕ) (d : Due) → StandsAfter plan past live
    → live.account.budget ≡ force plan d.time → p < count plan
    → moved_port live p d ≡ port_after plan (past ++ next_move plan past p d ∷ []) p
moved_known plan past live p d s budget_is lt =
    ap (λ (x : PortData). record { settings = x.settings; port_record = record_after x.settings x.port_record d (reply_at live p d) })
    (s.ports_are p lt)
    ∙ ap (λ (a : Option Answer). record {
      settings = settings_of plan p;
      port_record =
          record_after (settings_of plan p) (standing plan past p).state d a;
    }) (reply_known plan past live p d s budget_is lt)
    ∙ ap (λ (x : Standing). record { settings = settings_of plan p; port_record = x.state })
    (sym (standing-same plan past (next_move plan past p d) p refl))

-- its hold
pub moved_hold : (plan : Plan) (past : List Move) (p : ℕ) (d : Due) (x : PortData)
    → x ≡ port_after plan (past ++ next_move plan past p d ∷ []) p
    → hold x.settings x.port_record ≡ hold (settings_of plan p) (after plan (next_move plan past p d))
moved_hold plan past p d x e =
    ap (λ (z : PortData). hold z.settings z.port_record) e
    ∙ ap (λ (z : Standing). hold (settings_of plan p) z.state) (standing-same plan past (next_move plan past p d) p refl)

-- the moved port, as it stands
pub moved_at : (plan : Plan) (past : List Move) (before : LiveData) (port : ℕ) (d : Due) (live : LiveData)
    → HasMoved plan past before port d live
    → port_at live (port - 1) ≡ port_after plan (past ++ next_move plan past (port - 1) d ∷ []) (port - 1)
moved_at plan past before port d live h =
    let p = port - 1 in
    let known : p < count plan = h.next.first.known in
    let inside : p < length before.ports = omega (arith, h.stood.ports_count) in
    ap (λ (l : LiveData). port_at l p) h.moved
    ∙ get_or-set_same before.ports p (moved_port before p d) no_port inside
    ∙ moved_known plan past before p d h.stood h.budget known

-- all of it once what follows from a port's move is renewed
pub StandsAfter-renewed : (n : ℕ) (plan : Plan) (past : List Move) (before : LiveData) (port : ℕ) (d : Due) (live : LiveData)
    (taken : ℕ) (next : Option Due) (h : ℕ) → IsPlan n plan → HasMoved plan past before port d live
    → RunsTo plan (past ++ next_move plan past (port - 1) d ∷ [])
    → taken ≡ taken_after (slice_index live.taken (port - 1)) d → next ≡ asked_due plan live (port - 1) taken
    → h ≡ hold (port_at live (port - 1)).settings (port_at live (port - 1)).port_record
    → StandsAfter plan (past ++ next_move plan past (port - 1) d ∷ []) (record {
      ports = live.ports;
      taken = slice_set live.taken (port - 1) taken;
      dues = slice_set live.dues (port - 1) next;
      account = record live.account { holds = slice_set live.account.holds (port - 1) h };
    })
StandsAfter-renewed n plan past before port d live taken next h is hm runs taken_is next_is h_is =
    let p = port - 1 in
    let m : Move = next_move plan past p d in
    let x : PortData = moved_port before p d in
    let s = hm.stood in
    let known : p < count plan = hm.next.first.known in
    let inside : p < length before.ports = omega (arith, s.ports_count) in
    let inside_taken : p < length before.taken = omega (arith, s.taken_count) in
    let x_is : x ≡ port_after plan (past ++ m ∷ []) p = moved_known plan past before p d s hm.budget known in
    let x_at : port_at live p ≡ x = ap (λ (l : LiveData). port_at l p) hm.moved ∙ get_or-set_same before.ports p x no_port inside in
    let t_is : taken ≡ taken_after (slice_index before.taken p) d =
    taken_is ∙ ap (λ (l : LiveData). taken_after (slice_index l.taken p) d) hm.moved in
    let n_is : next ≡ due x.port_record (slice_get (script_of plan p) (taken_after (slice_index before.taken p) d)) =
    next_is ∙ ap (λ (z : PortData). due z.port_record (slice_get (script_of plan p) taken)) x_at
    ∙ ap (λ t. due x.port_record (slice_get (script_of plan p) t)) t_is in
    let held : h ≡ hold (settings_of plan p) (after plan m) =
    h_is ∙ moved_hold plan past p d (port_at live p) (moved_at plan past before port d live hm) in
    subst (λ (l : LiveData). StandsAfter plan (past ++ m ∷ []) (record {
      ports = l.ports;
      taken = slice_set l.taken p taken;
      dues = slice_set l.dues p next;
      account = record l.account { holds = slice_set l.account.holds p h };
    })) (sym hm.moved)
    (StandsAfter-step plan past before p d x (slice_set before.taken p taken) next h s runs known x_is
    (length-set before.taken p taken) (get_or-set_same before.taken p taken 0 inside_taken ∙ t_is)
    (λ k ne. get_or-set_other before.taken p k taken 0 ne) n_is held)

-- the hold that a port has moved to is no less than its floor, and no more than was free, or than it was
pub renewed_fits : (plan : Plan) (past : List Move) (before : LiveData) (port : ℕ) (d : Due) (live : LiveData) (h : ℕ)
    → HasMoved plan past before port d live → h ≡ hold (port_at live (port - 1)).settings (port_at live (port - 1)).port_record
    → (slice_index live.account.floors (port - 1) ≤ h)
    × (h ≤ max (free_of live.account (port - 1)) (slice_index live.account.holds (port - 1)))
renewed_fits plan past before port d live h hm h_is =
    let p = port - 1 in
    let s = hm.stood in
    let m : Move = next_move plan past p d in
    let held : h ≡ hold (settings_of plan p) (after plan m) =
    h_is ∙ moved_hold plan past p d (port_at live p) (moved_at plan past before port d live hm) in
    let fits = hold_after-fits plan past before p d s hm.budget hm.next.first.known in
    let floor = floor_known plan past before p s in
    let least = hold_floor (settings_of plan p) (after plan m) in
    subst (λ (l : LiveData). (slice_index l.account.floors p ≤ h) × (h ≤ max (free_of l.account p) (slice_index l.account.holds p)))
    (sym hm.moved) (omega arith, omega arith)

-- Where the port that moves stands as where all ports stand.

port_moved : ℕ → Due → PortData → Account → PortData
port_moved p d x a = record {
  settings = x.settings;
  port_record = record_after x.settings x.port_record d (option_map (answer_of a p) (ask x.settings x.port_record d));
}

-- its move leaves it alike
pub moved_beside : (plan : Plan) (past : List Move) (whole : LiveData) (port : ℕ) (d : Due) (live : LiveData)
    → IsNextBeside plan past whole port d live → moved_port live (port - 1) d ≡ moved_port whole (port - 1) d
unfolding port_moved
moved_beside plan past whole port d live h =
    let p = port - 1 in
    let there : port_moved p d (port_at live p) live.account ≡ port_moved p d (port_at whole p) whole.account =
    ap (λ (x : PortData). port_moved p d x live.account) h.port_is ∙ ap (port_moved p d (port_at whole p)) h.account_is in
    there

-- all of it after its move, where all ports stand
pub StandsAfter-moved : (n : ℕ) (plan : Plan) (past : List Move) (live : LiveData) (port : ℕ) (d : Due) → IsPlan n plan
    → StandsAfter plan past live → IsNext plan live port d → live.account.budget ≡ force plan d.time
    → StandsAfter plan (past ++ next_move plan past (port - 1) d ∷ []) (moved_live plan live (port - 1) d)
StandsAfter-moved n plan past live port d is s next budget =
    let p = port - 1 in
    let moved : LiveData = record live { ports = slice_set live.ports p (moved_port live p d) } in
    let hm : HasMoved plan past live port d moved = record { stood = s; next = next; budget = budget; moved = refl } in
    StandsAfter-renewed n plan past live port d moved _ _ _ is hm (runs_step n plan past live p d is s next.first) refl refl refl

-- the hold that it has moved to is no less than its floor, and no more than was free, or than it was
pub beside_fits : (plan : Plan) (past : List Move) (whole before : LiveData) (port : ℕ) (d : Due) (live : LiveData) (h : ℕ)
    → HasMovedBeside plan past whole before port d live → port - 1 < length live.ports
    → h ≡ hold (port_at live (port - 1)).settings (port_at live (port - 1)).port_record
    → (slice_index live.account.floors (port - 1) ≤ h)
    × (h ≤ max (free_of live.account (port - 1)) (slice_index live.account.holds (port - 1)))
beside_fits plan past whole before port d live h hm inside h_is =
    let p = port - 1 in
    let next = hm.next in
    let s = next.stood in
    let x : PortData = moved_port before p d in
    let y : PortData = moved_port whole p d in
    let moved : LiveData = record whole { ports = slice_set whole.ports p y } in
    let there : HasMoved plan past whole port d moved =
    record { stood = s; next = next.next; budget = next.budget; moved = refl } in
    let as_long : length live.ports ≡ length before.ports = ap (λ (l : LiveData). length l.ports) hm.moved ∙ length-set before.ports p x in
    let x_at : port_at live p ≡ x = ap (λ (l : LiveData). port_at l p) hm.moved
    ∙ get_or-set_same before.ports p x no_port (omega arith) in
    let y_at : port_at moved p ≡ y = get_or-set_same whole.ports p y no_port (omega (arith, s.ports_count, next.next.first.known)) in
    let same : port_at live p ≡ port_at moved p = x_at ∙ moved_beside plan past whole port d before next ∙ sym y_at in
    let fits = renewed_fits plan past whole port d moved h there (h_is ∙ ap (λ (z : PortData). hold z.settings z.port_record) same) in
    subst (λ (a : Account). (slice_index a.floors p ≤ h) × (h ≤ max (free_of a p) (slice_index a.holds p)))
    (sym (ap (λ (l : LiveData). l.account) hm.moved ∙ next.account_is)) fits
