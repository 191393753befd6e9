-- What ports hold of the shared budget while they move.
use Rattle.std.proofs.Common.{◌≡◌, ⊎_elim, ℕ, ◌-◌, ◌≤◌, List, [], ◌∷◌, ◌++◌, max, Option, None, refl, ap, sym, ◌∙◌, subst}
use Rattle.std.proofs.Common.{arith, option_map, slice_index, slice_set, ◌≢◌}
use Rattle.std.proofs.Math.ListN as list_map
use Rattle.std.proofs.lemmas.Bool.{cases_eq}
use Rattle.pd_objects.specs.Answers.{IsAllowed}
use Rattle.pd_objects.specs.declared.query.Answer.{Answer}
use Rattle.pd_objects.specs.declared.query.Query.{Query}
use Rattle.pd_setup.specs.Settings.{SettingsData, floor_of}
use Rattle.pd_port.specs.declared.due.Due.{Due}
use Rattle.pd_port.specs.declared.entry.Entry.{Entry}
use Rattle.pd_port.specs.Port.{PortRecord, ask, entry_of, hold}
use Rattle.pd_port.proofs.PortLaws.{hold_fits, hold_floor}
use Rattle.pd_ledger.specs.Account.{Account, free_of}
use Rattle.pd_ledger.specs.Offer.{answer_of}
use Rattle.pd_ledger.proofs.Offers.{answer-allowed}
use Rattle.pd_scenario.specs.Plan.{Plan, count, settings_of, force, no_settings}
use Rattle.pd_run.specs.Held.{AreHeld, HoldsOn}
use Rattle.pd_run.specs.Run.{Move, Standing, standing, after, account_after, holds_after, reply_after, GoesOn, IsAnswered}
use Rattle.pd_run.proofs.Alike.{same_map}
use Rattle.pd_run.proofs.Moves.{standing-same, standing-other}
use Rattle.pd_run.proofs.Steps.{table-set, hold_known}

-- what an entry tells of its move
entry_tells : (s : SettingsData) (r : PortRecord) (d : Due) (a : Option Answer)
    → ((entry_of s r d a).due ≡ d) × ((entry_of s r d a).query ≡ ask s r d)
unfolding entry_of
entry_tells s r d a = (refl, refl)

asked : (plan : Plan) (past : List Move) (m : Move) → GoesOn plan past m
    → (m.entry.due ≡ m.due) × (m.entry.query ≡ ask (settings_of plan m.port) m.before m.due)
asked plan past m goes =
    let tells = entry_tells (settings_of plan m.port) m.before m.due m.answer in
    (ap (λ (e : Entry). e.due) goes.entry_is ∙ tells.0, ap (λ (e : Entry). e.query) goes.entry_is ∙ tells.1)

-- a move that asks nothing and has no answer is answered
pub unasked : (plan : Plan) (past : List Move) (m : Move) → GoesOn plan past m → m.entry.query ≡ None → m.answer ≡ None
    → IsAnswered plan past m
unasked plan past m goes query none =
    none ∙ ap (reply_after plan past m.due.time m.port) (sym query ∙ (asked plan past m goes).1)

-- the account at a time
account_is : (plan : Plan) (past : List Move) (account : Account) (budget at : ℕ) → AreHeld plan past account → budget ≡ force plan at
    → record account { budget = budget } ≡ account_after plan past at
account_is plan past account budget at held is = λ i. record { budget = is i; floors = held.floors i; holds = held.holds i }

-- what the account gives for what an entry asks is the answer after the moves
given_is : (plan : Plan) (past : List Move) (account : Account) (m : Move) (port : ℕ) (entry : Entry) (answer : Option Answer)
    (left budget : ℕ) → HoldsOn plan past account m port entry answer left → budget ≡ force plan entry.due.time
    → option_map (answer_of (record account { budget = budget }) (port - 1)) entry.query
    ≡ reply_after plan past m.due.time m.port (ask (settings_of plan m.port) m.before m.due)
given_is plan past account m port entry answer left budget h is =
    let tells = asked plan past m h.goes in
    let p : port - 1 ≡ m.port = let e = h.port_is in omega arith in
    let time : entry.due.time ≡ m.due.time = ap (λ (e : Entry). e.due.time) h.entry_is ∙ ap (λ (d : Due). d.time) tells.0 in
    let whole = account_is plan past account budget m.due.time h.held (is ∙ ap (force plan) time) in
    ap (λ (k : ℕ). option_map (answer_of (record account { budget = budget }) k) entry.query) p
    ∙ ap (λ (a : Account). option_map (answer_of a m.port) entry.query) whole
    ∙ ap (λ (q : Option Query). reply_after plan past m.due.time m.port q) (ap (λ (e : Entry). e.query) h.entry_is ∙ tells.1)

-- the answer is that one where the move is answered
pub is_given : (plan : Plan) (past : List Move) (account : Account) (m : Move) (port : ℕ) (entry : Entry) (answer : Option Answer)
    (left budget : ℕ) → HoldsOn plan past account m port entry answer left → budget ≡ force plan entry.due.time
    → answer ≡ option_map (answer_of (record account { budget = budget }) (port - 1)) entry.query → IsAnswered plan past m
is_given plan past account m port entry answer left budget h is e =
    sym h.answer_is ∙ e ∙ given_is plan past account m port entry answer left budget h is

pub gives_it : (plan : Plan) (past : List Move) (account : Account) (m : Move) (port : ℕ) (entry : Entry) (answer : Option Answer)
    (left budget : ℕ) → HoldsOn plan past account m port entry answer left → budget ≡ force plan entry.due.time
    → IsAnswered plan past m → answer ≡ option_map (answer_of (record account { budget = budget }) (port - 1)) entry.query
gives_it plan past account m port entry answer left budget h is answered =
    h.answer_is ∙ answered ∙ sym (given_is plan past account m port entry answer left budget h is)

-- what a port holds after an answered move is no less than its floor, and no more than was free, or than it held
pub left_fits : (plan : Plan) (past : List Move) (account : Account) (m : Move) (port : ℕ) (entry : Entry) (answer : Option Answer)
    (left budget : ℕ) → HoldsOn plan past account m port entry answer left → budget ≡ force plan entry.due.time → IsAnswered plan past m
    → (slice_index account.floors (port - 1) ≤ left)
    × (left ≤ max (free_of (record account { budget = budget }) (port - 1)) (slice_index account.holds (port - 1)))
left_fits plan past account m port entry answer left budget h is answered =
    let s = settings_of plan m.port in
    let known : port - 1 ≡ m.port = let e = h.port_is in omega arith in
    let tells = asked plan past m h.goes in
    let time : entry.due.time ≡ m.due.time = ap (λ (e : Entry). e.due.time) h.entry_is ∙ ap (λ (d : Due). d.time) tells.0 in
    let then = account_after plan past m.due.time in
    let whole = account_is plan past account budget m.due.time h.held (is ∙ ap (force plan) time) in
    let allowed : IsAllowed (free_of then m.port) (ask s m.before m.due) m.answer =
    subst (IsAllowed (free_of then m.port) (ask s m.before m.due)) (sym answered) (answer-allowed then m.port (ask s m.before m.due)) in
    let fits = hold_fits s m.before m.due m.answer (free_of then m.port) allowed in
    let held : slice_index then.holds m.port ≡ hold s m.before =
    hold_known plan past m.port h.goes.known ∙ ap (hold s) (sym h.goes.before_is) in
    let floor : slice_index then.floors m.port ≡ floor_of s = list_map.get_or-map floor_of plan.settings m.port no_settings in
    let least = hold_floor s (after plan m) in
    let left_is = h.left_is in
    let both : (slice_index then.floors m.port ≤ left) × (left ≤ max (free_of then m.port) (slice_index then.holds m.port)) =
    (omega arith, omega arith) in
    subst (λ (k : ℕ). (slice_index account.floors k ≤ left)
    × (left ≤ max (free_of (record account { budget = budget }) k) (slice_index account.holds k))) (sym known)
    (subst (λ (a : Account). (slice_index a.floors m.port ≤ left) × (left ≤ max (free_of a m.port) (slice_index a.holds m.port)))
    (sym whole) both)

-- what the ports hold after it
pub held_on : (plan : Plan) (past : List Move) (account : Account) (m : Move) (port : ℕ) (entry : Entry) (answer : Option Answer)
    (left budget : ℕ) → HoldsOn plan past account m port entry answer left
    → AreHeld plan (past ++ m ∷ []) (record { budget = budget; floors = account.floors; holds = slice_set account.holds (port - 1) left })
held_on plan past account m port entry answer left budget h =
    let known : port - 1 ≡ m.port = let e = h.port_is in omega arith in
    let here = standing-same plan past m m.port refl in
    let set : slice_set (holds_after plan past) m.port left ≡ holds_after plan (past ++ m ∷ []) =
    table-set _ _ (count plan) m.port left h.goes.known
    (λ k ne. ap (λ (x : Standing). hold (settings_of plan k) x.state) (standing-other plan past m k (λ e. ne (sym e))))
    (ap (λ (x : Standing). hold (settings_of plan m.port) x.state) here ∙ sym h.left_is) in
    record {
      floors = h.held.floors;
      holds = ap (λ (k : ℕ). slice_set account.holds k left) known ∙ ap (λ (l : List ℕ). slice_set l m.port left) h.held.holds ∙ set;
    }

-- and after a move that leaves its port's hold as it was
pub quiet_on : (plan : Plan) (past : List Move) (account : Account) (m : Move) → AreHeld plan past account → GoesOn plan past m
    → hold (settings_of plan m.port) (after plan m) ≡ hold (settings_of plan m.port) m.before → AreHeld plan (past ++ m ∷ []) account
quiet_on plan past account m held goes quiet =
    let s = settings_of plan m.port in
    let more : List Move = past ++ m ∷ [] in
    let here : hold s (standing plan past m.port).state ≡ hold s (standing plan more m.port).state =
    ap (hold s) (sym goes.before_is) ∙ sym quiet
    ∙ ap (λ (x : Standing). hold s x.state) (sym (standing-same plan past m m.port refl)) in
    let same : holds_after plan past ≡ holds_after plan more =
    same_map _ _ (count plan)
    (λ k lt.
    ⊎_elim
    (λ (is : m.port ≡ k).
    subst (λ q. hold (settings_of plan q) (standing plan past q).state ≡ hold (settings_of plan q) (standing plan more q).state) is here)
    (λ (other : m.port ≢ k). ap (λ (x : Standing). hold (settings_of plan k) x.state) (sym (standing-other plan past m k other)))
    (cases_eq m.port k)) in
    record { floors = held.floors; holds = held.holds ∙ same }
