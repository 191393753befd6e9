-- Ports that stand alike, of whom two plans ask the same, move alike.
use Rattle.std.proofs.Common.{◌≡◌, ◌≢◌, ⊎_elim, ◌⊎◌, inl, inr, ℕ, zero, suc, ◌+◌, ◌<◌, ◌≤◌, nat_lt, Bool, true, false, cond}
use Rattle.std.proofs.Common.{List, [], ◌∷◌, ◌++◌, length, map, drop, get_or, All, Option, Some, None, slice_get}
use Rattle.std.proofs.Common.{refl, ap, sym, ◌∙◌, subst, arith, append_assoc, option_map}
use Rattle.std.specs.List.{range_with_len}
use Rattle.std.proofs.lemmas.List.{append-nil, append_cancel_left, drop-drop, same_lists}
use Rattle.std.proofs.lemmas.List.FromFn.{get_or-map-range_with_len, length-map-range_with_len}
use Rattle.std.proofs.lemmas.Bool.{cases_eq, cases_lt, cases_Bool}
use Rattle.std.proofs.lemmas.Bool.Decides.{nat_tests}
use Rattle.std.proofs.lemmas.Option.{same_Some}
use Rattle.pd_setup.specs.Settings.{SettingsData, floor_of}
use Rattle.pd_setup.specs.Events.{EventData}
use Rattle.pd_port.specs.declared.due.Due.{Due}
use Rattle.pd_port.specs.declared.due.What.TheVariants as what
use Rattle.pd_port.specs.Port.{PortRecord, due, earlier, event_due, is_before, is_event, ask, entry_of}
use Rattle.pd_port.specs.Port.{hold, record_after}
use Rattle.pd_port.proofs.PortLaws.{due_event}
use Rattle.pd_ledger.specs.Account.{Account}
use Rattle.pd_ledger.specs.Offer.{answer_of}
use Rattle.pd_scenario.specs.Plan.{Plan, count, settings_of, script_of, floors_of, force, no_settings}
use Rattle.pd_run.specs.Order.{EachAfter}
use Rattle.pd_run.specs.Run.{Move, Run, Standing, standing, after, taken_after, due_after, holds_after, account_after, reply_after}
use Rattle.pd_run.specs.Run.{GoesOn, IsAnswered, IsInOrder, NoneLater}
use Rattle.pd_run.specs.UpTo.{before, IsUpTo, until, AgreeIn, AreAlike, PortIsAlike, PortsGoOnAlike, StandsBeside, GoOnAlike}
use Rattle.pd_run.proofs.Moves.{standing-same, standing-other}
use Rattle.pd_run.proofs.Steps.{some_event}
use Rattle.pd_run.proofs.Taken.{taken_is}
use Rattle.pd_run.proofs.Cut.{All-head, All-tail, All-append, All-front, All-back, EachAfter-append, EachAfter-front, EachAfter-back}
use Rattle.pd_run.proofs.Cut.{cut_from, run_up_to, up_to, earlier_none, IsEarlier, IsLater}

-- What falls due, and the next event.

-- the earliest of the next event and of what else is due
due_is : (r : PortRecord) (next : Option EventData) → due r next ≡ earlier (event_due next) (due r None)
unfolding due
due_is r next = refl

abbrev at_event : EventData → Due
at_event e = record { time = e.at; what = what.Event e }

-- an event before a time is the next one of both
abbrev SameBelow : ℕ → Option EventData → Option EventData → Type 0
SameBelow to a b = (e : EventData) → a ≡ Some e → e.at < to → b ≡ Some e

by_rank : (g f d : Due) (b : Bool) → g.time < f.time → is_before g f ≡ b → b ≡ true
unfolding is_before
by_rank g f d true lt e = refl
by_rank g f d false lt e = absurd (grind (arith, nat_tests))

-- a late event isn't what is due early
unlate : (o : Option Due) (f d : Due) (to : ℕ) → to ≤ f.time → earlier (Some f) o ≡ Some d → d.time < to → o ≡ Some d
unlate None f d to late h lt = absurd (let e = ap (λ (x : Due). x.time) (same_Some f d h) in omega arith)
unlate (Some g) f d to late h lt =
    elim (cases_Bool (is_before g f)) [
      | inl is ↦ sym (ap (λ (b : Bool). cond b (Some g) (Some f)) is) ∙ h
      | inr isnt ↦
          let e : Some f ≡ Some d = sym (ap (λ (b : Bool). cond b (Some g) (Some f)) isnt) ∙ h in
          absurd (let t = ap (λ (x : Due). x.time) (same_Some f d e) in omega arith)
    ]

-- what is due early is due beside a late event too
beside : (f d : Due) (to : ℕ) → to ≤ f.time → d.time < to → earlier (Some f) (Some d) ≡ Some d
beside f d to late lt = ap (λ (b : Bool). cond b (Some d) (Some f)) (by_rank d f d (is_before d f) (omega arith) refl)

early_due : (o : Option Due) (a b : Option EventData) (d : Due) (to : ℕ) → earlier (event_due a) o ≡ Some d → d.time < to
    → SameBelow to a b → SameBelow to b a → earlier (event_due b) o ≡ Some d
early_due o None None d to h lt there back = h
early_due o None (Some f) d to h lt there back =
    ⊎_elim
    (λ (early : f.at < to). absurd (let e : None ≡ Some f = back f refl early in cc))
    (λ (late : to ≤ f.at). ap (earlier (event_due (Some f))) h ∙ beside (at_event f) d to late lt)
    (cases_lt f.at to)
early_due o (Some e) None d to h lt there back =
    ⊎_elim
    (λ (early : e.at < to). absurd (let k : None ≡ Some e = there e refl early in cc))
    (λ (late : to ≤ e.at). unlate o (at_event e) d to late h lt)
    (cases_lt e.at to)
early_due o (Some e) (Some f) d to h lt there back =
    ⊎_elim
    (λ (early : e.at < to). ap (λ n. earlier (event_due n) o) (there e refl early) ∙ h)
    (λ (late : to ≤ e.at).
    ⊎_elim
    (λ (early : f.at < to). absurd (let k = same_Some _ _ (back f refl early) in let t = ap (λ (x : EventData). x.at) k in omega arith))
    (λ (late_too : to ≤ f.at).
    ap (earlier (event_due (Some f))) (unlate o (at_event e) d to late h lt) ∙ beside (at_event f) d to late_too lt)
    (cases_lt f.at to))
    (cases_lt e.at to)

-- what is due before a time is due beside the next event of the other script
same_due : (r s : PortRecord) (a b : Option EventData) (d : Due) (to : ℕ) → r ≡ s → due r a ≡ Some d → d.time < to
    → SameBelow to a b → SameBelow to b a → due s b ≡ Some d
same_due r s a b d to same h lt there back =
    ap (λ x. due x b) (sym same) ∙ due_is r b ∙ early_due (due r None) a b d to (sym (due_is r a) ∙ h) lt there back

-- What is left of two scripts.

if_less : {X : Type 0} (a b : ℕ) (x y : X) → a < b → cond (nat_lt a b) x y ≡ x
if_less a b x y e = grind (arith, nat_tests)

if_not_less : {X : Type 0} (a b : ℕ) (x y : X) → b ≤ a → cond (nat_lt a b) x y ≡ y
if_not_less a b x y e = grind (arith, nat_tests)

get_from : (es : List EventData) (t : ℕ) → slice_get es t ≡ slice_get (drop t es) 0
get_from es zero = refl
get_from [] (suc t) = refl
get_from (e ∷ es) (suc t) = get_from es t

-- both begin with the same event, and go on alike
record GoOn (to : ℕ) (xs ys : List EventData) (e : EventData) : Type 0 where
  next : slice_get ys 0 ≡ Some e
  rest : until to (drop 1 xs) ≡ until to (drop 1 ys)

same_cons : (e f : EventData) (es fs : List EventData) → e ∷ es ≡ f ∷ fs → (e ≡ f) × (es ≡ fs)
same_cons e f es fs h = (cc, cc)

go_on : (to : ℕ) (xs ys : List EventData) (e : EventData) → until to xs ≡ until to ys → slice_get xs 0 ≡ Some e → e.at < to
    → GoOn to xs ys e
go_on to [] ys e h get lt = absurd (cc)
go_on to (x ∷ xs) [] e h get lt =
    let is : x ≡ e = same_Some _ _ get in
    let at = ap (λ (y : EventData). y.at) is in
    let some : x ∷ until to xs ≡ [] = sym (if_less x.at to (x ∷ until to xs) [] (omega arith)) ∙ h in
    absurd (cc)
go_on to (x ∷ xs) (y ∷ ys) e h get lt =
    let is : x ≡ e = same_Some _ _ get in
    let at = ap (λ (z : EventData). z.at) is in
    let some = if_less x.at to (x ∷ until to xs) [] (omega arith) in
    ⊎_elim
    (λ (early : y.at < to).
    let both : x ∷ until to xs ≡ y ∷ until to ys = sym some ∙ h ∙ if_less y.at to (y ∷ until to ys) [] early in
    let parts = same_cons x y (until to xs) (until to ys) both in
    let on : GoOn to (x ∷ xs) (y ∷ ys) e = record { next = ap (λ (z : EventData). Some z) (sym parts.0 ∙ is); rest = parts.1 } in
    on)
    (λ (late : to ≤ y.at).
    let none : x ∷ until to xs ≡ [] = sym some ∙ h ∙ if_not_less y.at to (y ∷ until to ys) [] late in
    absurd (cc))
    (cases_lt y.at to)

-- Where the ports stand, and what is left of their scripts.

-- each port stands alike
abbrev pub StandAlike : Plan → Plan → ℕ → List Move → List Move → Type 0
StandAlike a b to past more = (p : ℕ) → p < count a → PortIsAlike a b past more p to

same_below : (to : ℕ) (es fs : List EventData) (t u : ℕ) → until to (drop t es) ≡ until to (drop u fs)
    → SameBelow to (slice_get es t) (slice_get fs u)
same_below to es fs t u h = λ e get lt.
    get_from fs u ∙ (go_on to (drop t es) (drop u fs) e h (sym (get_from es t) ∙ get) lt).next

-- the due of a port before a time is that of the other
due_alike : (a b : Plan) (to : ℕ) (past more : List Move) (p : ℕ) (d : Due) → PortIsAlike a b past more p to
    → due_after a past p ≡ Some d → d.time < to → due_after b more p ≡ Some d
due_alike a b to past more p d s e early =
    same_due _ _ _ _ d to s.records e early (same_below to (script_of a p) (script_of b p) _ _ s.events)
    (same_below to (script_of b p) (script_of a p) _ _ (sym s.events))

due_back : (a b : Plan) (to : ℕ) (past more : List Move) (p : ℕ) (d : Due) → PortIsAlike a b past more p to
    → due_after b more p ≡ Some d → d.time < to → due_after a past p ≡ Some d
due_back a b to past more p d s e early =
    same_due _ _ _ _ d to (sym s.records) e early (same_below to (script_of b p) (script_of a p) _ _ (sym s.events))
    (same_below to (script_of a p) (script_of b p) _ _ s.events)

-- what is left after a due
left_after : (a b : Plan) (to : ℕ) (p t u : ℕ) (r : PortRecord) (d : Due) → due r (slice_get (script_of a p) t) ≡ Some d → d.time < to
    → until to (drop t (script_of a p)) ≡ until to (drop u (script_of b p))
    → until to (drop (taken_after t d) (script_of a p)) ≡ until to (drop (taken_after u d) (script_of b p))
left_after a b to p t u r d e early h =
    elim (cases_Bool (is_event d.what)) [
      | inl is ↦
          let x = some_event d.what is in
          let had = due_event r (slice_get (script_of a p) t) d x.0 e x.1 in
          let on = go_on to (drop t (script_of a p)) (drop u (script_of b p)) x.0 h (sym (get_from (script_of a p) t) ∙ had.0)
          (let time = had.1 in omega arith) in
          ap (λ (c : Bool). until to (drop (cond c (t + 1) t) (script_of a p))) is ∙ ap (until to) (sym (drop-drop 1 t (script_of a p)))
          ∙ on.rest ∙ ap (until to) (drop-drop 1 u (script_of b p))
          ∙ ap (λ (c : Bool). until to (drop (cond c (u + 1) u) (script_of b p))) (sym is)
      | inr isnt ↦
          ap (λ (c : Bool). until to (drop (cond c (t + 1) t) (script_of a p))) isnt ∙ h
          ∙ ap (λ (c : Bool). until to (drop (cond c (u + 1) u) (script_of b p))) (sym isnt)
    ]

-- a move of both leaves its port alike
stands_on : (a b : Plan) (to : ℕ) (past more : List Move) (m : Move) (p : ℕ) → m.port ≡ p → PortIsAlike a b past more p to
    → GoesOn a past m → m.due.time < to → PortIsAlike a b (past ++ m ∷ []) (more ++ m ∷ []) p to
stands_on a b to past more m p same s goes early =
    let in_a = standing-same a past m p same in
    let in_b = standing-same b more m p same in
    let is_due : due_after a past p ≡ Some m.due = ap (due_after a past) (sym same) ∙ goes.due_is in
    let left = left_after a b to p (standing a past p).taken (standing b more p).taken (standing a past p).state m.due is_due early
    s.events in
    let state : after a m ≡ after b m =
    ap (λ q. record_after (settings_of a q) m.before m.due m.answer) same
    ∙ ap (λ (x : SettingsData). record_after x m.before m.due m.answer) s.settings
    ∙ ap (λ q. record_after (settings_of b q) m.before m.due m.answer) (sym same) in
    record {
      settings = s.settings;
      records = ap (λ (x : Standing). x.state) in_a ∙ state ∙ ap (λ (x : Standing). x.state) (sym in_b);
      events = ap (λ (x : Standing). until to (drop x.taken (script_of a p))) in_a ∙ left
          ∙ ap (λ (x : Standing). until to (drop x.taken (script_of b p))) (sym in_b);
    }

-- and moves of other ports leave it so too
stands_aside : (a b : Plan) (to : ℕ) (past more : List Move) (m : Move) (p : ℕ) → m.port ≢ p → PortIsAlike a b past more p to
    → PortIsAlike a b (past ++ m ∷ []) more p to
stands_aside a b to past more m p other s =
    let in_a = standing-other a past m p other in
    record {
      settings = s.settings;
      records = ap (λ (x : Standing). x.state) in_a ∙ s.records;
      events = ap (λ (x : Standing). until to (drop x.taken (script_of a p))) in_a ∙ s.events;
    }

pub stands_aside_too : (a b : Plan) (to : ℕ) (past more : List Move) (m : Move) (p : ℕ) → m.port ≢ p → PortIsAlike a b past more p to
    → PortIsAlike a b past (more ++ m ∷ []) p to
stands_aside_too a b to past more m p other s =
    let in_b = standing-other b more m p other in
    record {
      settings = s.settings;
      records = s.records ∙ ap (λ (x : Standing). x.state) (sym in_b);
      events = s.events ∙ ap (λ (x : Standing). until to (drop x.taken (script_of b p))) (sym in_b);
    }

-- the ports stand alike after one more move of both
stand_on : (a b : Plan) (to : ℕ) (past more : List Move) (m : Move) → StandAlike a b to past more → GoesOn a past m → m.due.time < to
    → StandAlike a b to (past ++ m ∷ []) (more ++ m ∷ [])
stand_on a b to past more m s goes early = λ p lt.
    ⊎_elim
    (λ (same : m.port ≡ p). stands_on a b to past more m p same (s p lt) goes early)
    (λ (other : m.port ≢ p). stands_aside a b to past (more ++ m ∷ []) m p other (stands_aside_too a b to past more m p other (s p lt)))
    (cases_eq m.port p)

-- Moves of the one are moves of the other.

pub same_count : (a b : Plan) → a.settings ≡ b.settings → count a ≡ count b
same_count a b set = ap length set

goes_on_too : (a b : Plan) (to : ℕ) (past more : List Move) (m : Move) → m.port < count b → PortIsAlike a b past more m.port to
    → GoesOn a past m → m.due.time < to → GoesOn b more m
goes_on_too a b to past more m known s goes early = record {
  known = known;
  before_is = goes.before_is ∙ s.records;
  due_is = due_alike a b to past more m.port m.due s goes.due_is early;
  entry_is = goes.entry_is ∙ ap (λ (x : SettingsData). entry_of x m.before m.due m.answer) s.settings;
}

-- tables that are the same at each place
pub same_map : (f g : ℕ → ℕ) (n : ℕ) → ((k : ℕ) → k < n → f k ≡ g k) → map f (range_with_len 0 n) ≡ map g (range_with_len 0 n)
same_map f g n h =
    let fs = length-map-range_with_len f 0 n in
    let gs = length-map-range_with_len g 0 n in
    same_lists _ _ (fs ∙ sym gs)
    (λ k d lt.
    let kn : k < n = omega arith in
    get_or-map-range_with_len f 0 n k k d kn (omega arith) ∙ h k kn ∙ sym (get_or-map-range_with_len g 0 n k k d kn (omega arith)))

same_holds : (a b : Plan) (to : ℕ) (past more : List Move) → a.settings ≡ b.settings → StandAlike a b to past more
    → holds_after a past ≡ holds_after b more
same_holds a b to past more set s =
    same_map _ _ (count a) (λ k lt. ap (λ (l : List SettingsData). hold (get_or l k no_settings) (standing a past k).state) set
    ∙ ap (hold (settings_of b k)) (s k lt).records)
    ∙ ap (λ n. map (λ p. hold (settings_of b p) (standing b more p).state) (range_with_len 0 n)) (same_count a b set)

answered_too : (a b : Plan) (to : ℕ) (past more : List Move) (m : Move) → a.settings ≡ b.settings → StandAlike a b to past more
    → force a m.due.time ≡ force b m.due.time → IsAnswered a past m → IsAnswered b more m
answered_too a b to past more m set s budget h =
    let floors : floors_of a ≡ floors_of b = ap (map floor_of) set in
    let holds = same_holds a b to past more set s in
    let account : account_after a past m.due.time ≡ account_after b more m.due.time =
    λ i. record { budget = budget i; floors = floors i; holds = holds i } in
    h ∙ ap (λ (l : Account). option_map (answer_of l m.port) (ask (settings_of a m.port) m.before m.due)) account
    ∙ ap (λ (l : List SettingsData). reply_after b more m.due.time m.port (ask (get_or l m.port no_settings) m.before m.due)) set

-- from one time to another
abbrev IsIn : ℕ → ℕ → Move → Type 0
IsIn from to m = (from ≤ m.due.time) × (m.due.time < to)

record GoTogether (a b : Plan) (to : ℕ) (past more moves : List Move) : Type 0 where
  chained : EachAfter (GoesOn b) more moves
  alike : StandAlike a b to (past ++ moves) (more ++ moves)

go_together : (a b : Plan) (from to : ℕ) (past more moves : List Move) → a.settings ≡ b.settings → StandAlike a b to past more
    → EachAfter (GoesOn a) past moves → All (IsIn from to) moves → GoTogether a b to past more moves
go_together a b from to past more [] set s goes inside = record {
  chained = tt;
  alike = subst (λ (l : List Move). StandAlike a b to l (more ++ [])) (sym (append-nil past))
      (subst (λ (l : List Move). StandAlike a b to past l) (sym (append-nil more)) s);
}
go_together a b from to past more (m ∷ ms) set s goes inside =
    let here = All-head (IsIn from to) m ms inside in
    let on = go_together a b from to (past ++ m ∷ []) (more ++ m ∷ []) ms set (stand_on a b to past more m s goes.0 here.1) goes.1
    (All-tail (IsIn from to) m ms inside) in
    record {
      chained = (
        goes_on_too a b to past more m (omega (arith, goes.0.known, same_count a b set)) (s m.port goes.0.known) goes.0 here.1,
        on.chained,
      );
      alike = subst (λ (l : List Move). StandAlike a b to l (more ++ m ∷ ms)) (append_assoc past (m ∷ []) ms)
          (subst (λ (l : List Move). StandAlike a b to ((past ++ m ∷ []) ++ ms) l) (append_assoc more (m ∷ []) ms) on.alike);
    }

answered_together : (a b : Plan) (from to : ℕ) (past more moves : List Move) → a.settings ≡ b.settings
    → ((t : ℕ) → from ≤ t → t < to → force a t ≡ force b t) → StandAlike a b to past more → EachAfter (GoesOn a) past moves
    → EachAfter (IsAnswered a) past moves → All (IsIn from to) moves → EachAfter (IsAnswered b) more moves
answered_together a b from to past more [] set budget s goes answered inside = tt
answered_together a b from to past more (m ∷ ms) set budget s goes answered inside =
    let here = All-head (IsIn from to) m ms inside in (
      answered_too a b to past more m set s (budget m.due.time here.0 here.1) answered.0,
      answered_together a b from to (past ++ m ∷ []) (more ++ m ∷ []) ms set budget (stand_on a b to past more m s goes.0 here.1)
          goes.1 answered.1 (All-tail (IsIn from to) m ms inside),
    )

pub none_later-back : (t p : ℕ) (past moves : List Move) → NoneLater t p (past ++ moves) → NoneLater t p moves
none_later-back t p [] moves h = h
none_later-back t p (m ∷ ms) moves h = none_later-back t p ms moves h.1

pub none_later-append : (t p : ℕ) (past moves : List Move) → NoneLater t p past → NoneLater t p moves → NoneLater t p (past ++ moves)
none_later-append t p [] moves h k = k
none_later-append t p (m ∷ ms) moves h k = (h.0, none_later-append t p ms moves h.1 k)

order_together : (from to : ℕ) (past more done moves : List Move) → All (λ m. m.due.time < from) more → All (IsIn from to) moves
    → EachAfter IsInOrder (past ++ done) moves → EachAfter IsInOrder (more ++ done) moves
order_together from to past more done [] earlier inside h = tt
order_together from to past more done (m ∷ ms) earlier inside h =
    let here = All-head (IsIn from to) m ms inside in
    let old : NoneLater m.due.time m.port more =
    earlier_none m.due.time m.port more (λ k d lt. let e = earlier k d lt in let f = here.0 in omega arith) in (
      none_later-append m.due.time m.port more done old (none_later-back m.due.time m.port past done h.0),
      subst (λ (l : List Move). EachAfter IsInOrder l ms) (sym (append_assoc more done (m ∷ [])))
          (order_together from to past more (done ++ m ∷ []) ms earlier (All-tail (IsIn from to) m ms inside)
          (subst (λ (l : List Move). EachAfter IsInOrder l ms) (append_assoc past done (m ∷ [])) h.1)),
    )

abbrev pub EndTogether : Plan → Plan → ℕ → Type 0
EndTogether a b to = (a.end ≡ b.end) ⊎ ((to ≤ a.end) × (to ≤ b.end))

pub in_both : (a b : Plan) (to t : ℕ) → EndTogether a b to → t < to → t ≤ a.end → t ≤ b.end
in_both a b to t (inl e) lt le = omega arith
in_both a b to t (inr e) lt le = let f = e.1 in omega arith

pub in_both_back : (a b : Plan) (to t : ℕ) → EndTogether a b to → t < to → t ≤ b.end → t ≤ a.end
in_both_back a b to t (inl e) lt le = omega arith
in_both_back a b to t (inr e) lt le = let f = e.0 in omega arith

timely_together : (a b : Plan) (from to : ℕ) (past more moves : List Move) → EndTogether a b to → All (IsIn from to) moves
    → EachAfter (λ _ m. m.due.time ≤ a.end) past moves → EachAfter (λ _ m. m.due.time ≤ b.end) more moves
timely_together a b from to past more [] ends inside h = tt
timely_together a b from to past more (m ∷ ms) ends inside h =
    let here = All-head (IsIn from to) m ms inside in (
      in_both a b to m.due.time ends here.1 h.0,
      timely_together a b from to (past ++ m ∷ []) (more ++ m ∷ []) ms ends (All-tail (IsIn from to) m ms inside) h.1,
    )

-- the moves of a run from one time to another
pub record Between (from to : ℕ) (moves mid : List Move) : Type 0 where
  pub rest : List Move
  pub whole : moves ≡ (before from moves ++ mid) ++ rest
  pub inside : All (IsIn from to) mid

pub between : (plan : Plan) (moves mid : List Move) (from to : ℕ) → Run plan moves → before to moves ≡ before from moves ++ mid
    → Between from to moves mid
between plan moves mid from to run is =
    let c = cut_from from [] moves run.ordered in
    let d = cut_from to [] moves run.ordered in
    let whole : moves ≡ (before from moves ++ mid) ++ d.rest = d.whole ∙ ap (λ (l : List Move). l ++ d.rest) is in
    let rest : c.rest ≡ mid ++ d.rest =
    append_cancel_left (before from moves) c.rest (mid ++ d.rest)
    (sym c.whole ∙ whole ∙ append_assoc (before from moves) mid d.rest) in
    let later : All (λ m. from ≤ m.due.time) mid =
    All-front (IsLater from) mid d.rest (subst (λ (l : List Move). All (λ m. from ≤ m.due.time) l) rest c.later) in
    let earlier : All (λ m. m.due.time < to) mid =
    All-back (IsEarlier to) (before from moves) mid (subst (λ (l : List Move). All (λ m. m.due.time < to) l) is d.earlier) in
    record { rest = d.rest; whole = whole; inside = λ k x lt. (later k x lt, earlier k x lt) }

-- what holds of each move of a run holds of those in between
in_between : (P : List Move → Move → Type 0) (moves mid : List Move) (from to : ℕ) → EachAfter P [] moves → Between from to moves mid
    → EachAfter P (before from moves) mid
in_between P moves mid from to h w =
    EachAfter-back P [] (before from moves) mid
    (EachAfter-front P [] (before from moves ++ mid) w.rest (subst (λ (l : List Move). EachAfter P [] l) w.whole h))

-- both stand alike at the first time, and have the same events left before the second one
begin_alike : (a b : Plan) (moves more mid : List Move) (from to : ℕ) → StandsBeside a b moves more mid from to
    → StandAlike a b to (before from moves) more
begin_alike a b moves more mid from to s = λ p lt.
    let past : List Move = before from moves in
    let had_a = taken_is a past from p (run_up_to a moves from s.run) s.soon lt in
    let had_b = taken_is b more from p s.up s.soon_too (omega (arith, same_count a b s.alike.settings)) in
    record {
      settings = ap (λ (l : List SettingsData). get_or l p no_settings) s.alike.settings;
      records = s.alike.records p lt;
      events = ap (λ n. until to (drop n (script_of a p))) had_a ∙ s.scripts.events p lt
          ∙ ap (λ n. until to (drop n (script_of b p))) (sym had_b);
    }

-- the moves in between go on in the other too
together : (a b : Plan) (moves more mid : List Move) (from to : ℕ) → StandsBeside a b moves more mid from to
    → GoTogether a b to (before from moves) more mid
together a b moves more mid from to s =
    let w = between a moves mid from to s.run s.is_between in
    go_together a b from to (before from moves) more mid s.alike.settings (begin_alike a b moves more mid from to s)
    (in_between (GoesOn a) moves mid from to s.run.chained w) w.inside

pub chained_alike : (a b : Plan) (moves more mid : List Move) (from to : ℕ) → StandsBeside a b moves more mid from to
    → EachAfter (GoesOn b) more mid
chained_alike a b moves more mid from to s = (together a b moves more mid from to s).chained

-- and where they are answered there too, the other goes on with them, and the ports stand alike again
pub go_alike : (a b : Plan) (moves more mid : List Move) (from to : ℕ) → StandsBeside a b moves more mid from to
    → EachAfter (IsAnswered b) more mid → IsUpTo b (more ++ mid) to × AreAlike a (before to moves) b (more ++ mid)
go_alike a b moves more mid from to s answered =
    let past : List Move = before from moves in
    let le = s.rising in
    let w = between a moves mid from to s.run s.is_between in
    let on = together a b moves more mid from to s in
    let in_order : EachAfter IsInOrder more mid =
    subst (λ (l : List Move). EachAfter IsInOrder l mid) (append-nil more)
    (order_together from to past more [] mid s.up.earlier w.inside
    (subst (λ (l : List Move). EachAfter IsInOrder l mid) (sym (append-nil past))
    (in_between IsInOrder moves mid from to s.run.ordered w))) in
    let in_time : EachAfter (λ _ m. m.due.time ≤ b.end) more mid =
    timely_together a b from to past more mid s.scripts.ends w.inside
    (in_between (λ _ m. m.due.time ≤ a.end) moves mid from to s.run.timely w) in
    let earlier : All (λ m. m.due.time < to) (more ++ mid) =
    All-append (IsEarlier to) more mid (λ k d lt. let e = s.up.earlier k d lt in omega arith) (λ k d lt. (w.inside k d lt).1) in
    let old_up : IsUpTo a (past ++ mid) to = subst (λ (l : List Move). IsUpTo a l to) s.is_between (run_up_to a moves to s.run) in (
      up_to b (more ++ mid) to (EachAfter-append (GoesOn b) [] more mid s.up.runs.chained on.chained)
          (EachAfter-append IsInOrder [] more mid s.up.runs.ordered in_order)
          (EachAfter-append (IsAnswered b) [] more mid s.up.runs.answered answered)
          (EachAfter-append (λ _ m. m.due.time ≤ b.end) [] more mid s.up.runs.timely in_time) earlier
          (λ p d lt e soon.
          let k : p < count a = omega (arith, same_count a b s.alike.settings) in
          ⊎_elim
          (λ (early : d.time < to).
          old_up.passed p d k (due_back a b to (past ++ mid) (more ++ mid) p d (on.alike p k) e early)
          (in_both_back a b to d.time s.scripts.ends early soon))
          (λ (late : to ≤ d.time). late)
          (cases_lt d.time to)),
      record {
        settings = s.alike.settings;
        records = λ p lt. ap (λ (l : List Move). (standing a l p).state) s.is_between ∙ (on.alike p lt).records;
      },
    )

-- where the budgets are the same at each instant, they are answered there too
pub answered_alike : (a b : Plan) (moves more mid : List Move) (from to : ℕ) → StandsBeside a b moves more mid from to
    → AgreeIn a b from to → EachAfter (IsAnswered b) more mid
answered_alike a b moves more mid from to s agree =
    let w = between a moves mid from to s.run s.is_between in
    answered_together a b from to (before from moves) more mid s.alike.settings agree.budget (begin_alike a b moves more mid from to s)
    (in_between (GoesOn a) moves mid from to s.run.chained w) (in_between (IsAnswered a) moves mid from to s.run.answered w) w.inside

pub they_go_on_alike : GoOnAlike
they_go_on_alike = λ a b moves more mid from to s.
    (chained_alike a b moves more mid from to s, go_alike a b moves more mid from to s)

pub each_goes_on_alike : PortsGoOnAlike
each_goes_on_alike = λ a b moves others p to known s. record {
  dues = λ d early. (
    λ e. due_alike a b to moves others p d s e early,
    λ e. due_back a b to moves others p d s e early,
  );
  moves_on = λ m same early goes.
      let at : PortIsAlike a b moves others m.port to = subst (λ q. PortIsAlike a b moves others q to) (sym same) s in (
        goes_on_too a b to moves others m (omega (arith, same, known)) at goes early,
        stands_on a b to moves others m p same s goes early,
      );
  aside = λ m other. stands_aside a b to moves others m p other s;
  aside_too = λ m other. stands_aside_too a b to moves others m p other s;
}
