-- How far a span has come of which some ports follow an older run.
use Rattle.std.proofs.Common.{◌≡◌, ◌≢◌, ◌⊎◌, ⊎_elim, ℕ, ◌+◌, ◌-◌, ◌<◌, ◌≤◌, Bool, true, false, List, [], ◌∷◌, ◌++◌, length, map}
use Rattle.std.proofs.Common.{All, Option, None, Some, refl, ap, sym, ◌∙◌, subst, arith, drop, get_or, set, take, slice_index_or}
use Rattle.std.proofs.Common.{IsTrue, option_map, slice_set, append_assoc, zero, suc, MatchOption, replicate}
use Rattle.std.proofs.lemmas.List.{get_or-set_same, get_or-set_other, length-set, length-map, length_push, map-append, append-nil}
use Rattle.std.proofs.lemmas.List.{get_or_default, length-append, length-drop, length-take-le, take_all}
use Rattle.std.proofs.lemmas.List.Elements.{All-push}
use Rattle.std.proofs.Math.ListN as list_map
use Rattle.std.proofs.lemmas.Bool.{cases_eq, cases_lt, cases_Bool}
use Rattle.std.proofs.lemmas.Option.{slice_get_within}
use Rattle.pd_objects.specs.declared.query.Answer.{Answer}
use Rattle.pd_port.specs.declared.due.Due.{Due}
use Rattle.pd_port.specs.Meter.{raised}
use Rattle.pd_port.specs.Port.{PortData, ask, record_after}
use Rattle.pd_ledger.specs.Account.{Account}
use Rattle.pd_ledger.specs.Offer.{answer_of}
use Rattle.pd_scenario.specs.Plan.{Plan, count, settings_of, force}
use Rattle.pd_run.specs.Live.{LiveData, StandsAfter, StandsBut, IsNext, at_budget, due_at, port_at, port_after}
use Rattle.pd_run.specs.Live.{moved_port, moved_live, next_move}
use Rattle.pd_run.specs.Live.{IsNextBeside, reply_at, taken_up}
use Rattle.pd_run.specs.Order.{IsNoLater}
use Rattle.pd_run.specs.Run.{Move, GoesOn, IsAnswered, standing}
use Rattle.pd_run.specs.Start.{no_port}
use Rattle.pd_run.specs.StepsLeft.{steps_left}
use Rattle.pd_run.specs.UpTo.{before, AgreeInScripts, PortIsAlike}
use Rattle.pd_run.proofs.Alike.{between, stands_aside_too, in_both}
use Rattle.pd_run.proofs.Cut.{All-nil, All-append, IsEarlier, IsLater, up_to}
use Rattle.pd_run.proofs.Follow.{StandsBut-budget, StandsBut-moved, StandsBut-taken_up, next_beside, next_of_own, next_of_others}
use Rattle.pd_run.proofs.Follow.{none_before, none_due, alike_on, goes_at, goes_too, later_time, timely_at}
use Rattle.pd_run.proofs.Moves.{no_later-trans}
use Rattle.pd_run.proofs.Steps.{IsNext-budget, reply_known}
use Rattle.pd_run.proofs.StepsLeft.{steps_left_less}
use Rattle.pd_keep.specs.declared.follow.Course.{Course}
use Rattle.pd_keep.specs.declared.kept_move.Brief.{Brief}
use Rattle.pd_keep.specs.declared.kept_move.Place.{Place}
use Rattle.pd_keep.specs.Charge.{Charges}
use Rattle.pd_keep.specs.Following.{GoBeside, CanFollow, HasCome, HasCameOn, HasPassed, IsAway, IsNextFollowed, IsPassing, IsThrough}
use Rattle.pd_keep.specs.Following.{AreNumbered, ComesApart, ComesFirst, ComesAfter, followed_to, IsLate, IsFirstFollowed, IsOwnNext}
use Rattle.pd_keep.specs.Following.{HoldAlike, IsOwnTurn, IsFollowedTurn, KeepHold, ShareAlike}
use Rattle.pd_keep.specs.Fresh.{IsRepeated, AreFresh}
use Rattle.pd_keep.specs.Kept.{KeptData, RunData, held_by, kept_of, move_of, left_by, IsKnown, IsOwn, moves_from}
use Rattle.pd_keep.specs.Places.{StandAs}
use Rattle.pd_keep.specs.declared.rerun.Common.{Common}
use Rattle.pd_keep.specs.declared.rerun.Standing.{Standing}
use Rattle.pd_keep.specs.Rerun.{BeginsWithMarked, ComesTo, Costs, IsNextSpan}
use Rattle.pd_keep.specs.Spans.{BeginsAfter, moves_of}
use Rattle.pd_keep.proofs.Parted.{in_span}
use Rattle.pd_keep.proofs.Following.{followed_by, begins_alike, skipped}
use Rattle.pd_keep.proofs.Fresh.{fresh-push_repeated, fresh_step}
use Rattle.pd_keep.proofs.Later.{due_later_yet}
use Rattle.pd_keep.proofs.Made.{kept_is_next, kept_is_own, charges_those}
use Rattle.pd_keep.proofs.Places.{left_after, moves_from-more}
use Rattle.pd_keep.proofs.Shares.{answered_there, held_both, held_own, held_past}
use Rattle.pd_keep.proofs.Shows.{begins_same, begins_with_live}

-- moves of a span are none before its beginning
later_in : (n : ℕ) (a : Plan) (all : List Move) (old : RunData) (b : Plan) (past : List Move) (from : ℕ)
    → GoBeside n a all old b past from → All (IsLater from) (map move_of old.moves)
later_in n a all old b past from h =
    let w = between a all (map move_of old.moves) from old.to h.run h.is_between in λ k d lt. (w.inside k d lt).0

-- one more move of a span, in the run
one_more : (past : List Move) (kept : List KeptData) (k : KeptData)
    → past ++ map move_of (kept ++ k ∷ []) ≡ (past ++ map move_of kept) ++ move_of k ∷ []
one_more past kept k =
    ap (λ (l : List Move). past ++ l) (map-append move_of kept (k ∷ [])) ∙ sym (append_assoc past (map move_of kept) (move_of k ∷ []))

-- the old run's move of a place
mid_at : (moves : List KeptData) (i : ℕ) (d : KeptData) → get_or (map move_of moves) i (move_of d) ≡ move_of (get_or moves i d)
mid_at moves i d = list_map.get_or-map move_of moves i d

-- The places before the next followed one.

-- ports that follow stand alike there too
alike_there : (n : ℕ) (a : Plan) (all : List Move) (old : RunData) (b : Plan) (past : List Move) (from most first meter : ℕ)
    (course : Course) (live : LiveData) (at : ℕ) (d : KeptData) (p : ℕ)
    → (h : HasCome n a all old b past from most first meter course live)
    → IsNextFollowed old.moves course.away course.at at → p < n → IsAway course.away p
    → PortIsAlike a b (before from all ++ take at (map move_of old.moves)) (past ++ map move_of course.span.moves) p old.to
alike_there n a all old b past from most first meter course live at d p h next lt away =
    let mid : List Move = map move_of old.moves in
    let from_on = next.from_on in
    let within = next.within in
    let long = length-map old.moves move_of in
    let known : p < count b = omega (arith, h.beside.is_plan_too.settings_count) in
    let there : course.at + (at - course.at) ≡ at = omega arith in
    subst (λ k. PortIsAlike a b (before from all ++ take k mid) (past ++ map move_of course.span.moves) p old.to) there
    (skipped a b (before from all) mid (past ++ map move_of course.span.moves) old.to course.at p (move_of d) (at - course.at)
    (omega arith) known (λ j ge less e.
    let port : (get_or old.moves j d).port - 1 ≡ p = ap (λ (m : Move). m.port) (sym (mid_at old.moves j d)) ∙ e in
    let none = next.none j d ge (omega arith) in
    absurd (let both = ap (λ q. slice_index_or course.away q false) (sym port) ∙ none in cc)) (h.alike p lt away))

-- Turns.

-- a move that follows is the next one
pub passing : (n : ℕ) (a : Plan) (all : List Move) (old : RunData) (b : Plan) (past : List Move) (from most first meter : ℕ)
    (course : Course) (live : LiveData) (at : ℕ) (own : Option (ℕ × Due)) (d : KeptData)
    → (h : HasCome n a all old b past from most first meter course live)
    → IsNextFollowed old.moves course.away course.at at → at < length old.moves
    → ComesFirst (slice_index_or old.moves at d) own → IsOwnNext b live old.to own
    → 1 ≤ (slice_index_or old.moves at d).port → (slice_index_or old.moves at d).port ≤ n
    → IsPassing b (past ++ map move_of course.span.moves) course.away h.whole live (slice_index_or old.moves at d)
passing n a all old b past from most first meter course live at own d h next lt comes own_next from_one few =
    let k : KeptData = slice_index_or old.moves at d in
    let p = k.port - 1 in
    let others : List Move = past ++ map move_of course.span.moves in
    let front : List Move = before from all in
    let mid : List Move = map move_of old.moves in
    let w = followed_by n a all old b past from h.beside in
    let f = w.1 in
    let long = length-map old.moves move_of in
    let inside : at < length mid = omega arith in
    let is : get_or mid at (move_of d) ≡ move_of k = mid_at old.moves at d in
    let counts : count a ≡ count b = h.beside.is_plan.settings_count ∙ sym h.beside.is_plan_too.settings_count in
    let known : p < count b = omega (arith, h.beside.is_plan_too.settings_count) in
    let away = next.there d lt in
    let alike_at : (q : ℕ) → q < n → IsAway course.away q → PortIsAlike a b (front ++ take at mid) others q old.to =
    λ q less there. alike_there n a all old b past from most first meter course live at d q h next less there in
    let alike_k : PortIsAlike a b (front ++ take at mid) others (get_or mid at (move_of d)).port old.to =
    subst (λ (m : Move). PortIsAlike a b (front ++ take at mid) others m.port old.to) (sym is) (alike_at p (omega arith) away) in
    let known_k : (get_or mid at (move_of d)).port < count b = subst (λ (m : Move). m.port < count b) (sym is) known in
    let goes : GoesOn b others (move_of k) =
    subst (λ (m : Move). GoesOn b others m) is (goes_too a b front mid w.0 others old.to at (move_of d) f inside known_k alike_k) in
    let soon_a : k.due.time ≤ a.end =
    subst (λ (m : Move). m.due.time ≤ a.end) is (timely_at a b front mid w.0 old.to at (move_of d) f inside) in
    let early : k.due.time < old.to = subst (λ (m : Move). m.due.time < old.to) is (f.early at (move_of d) inside) in
    let soon : k.due.time ≤ b.end = in_both a b old.to k.due.time f.ends early soon_a in
    let s = h.but.stands in
    let is_due : due_at h.whole p ≡ Some k.due = s.dues_are p known ∙ goes.due_is in
    let there = h.beside.own at d lt in
    let settings = (alike_at p (omega arith) away).settings in
    record {
      but = h.but;
      there = away;
      next = next_of_others b others course.away h.whole live k.port k.due h.but from_one known is_due soon
          (λ q g less e. before_own own comes own_next q g less e soon early)
          (λ q g less there_q e.
          subst (λ (m : Move). IsNoLater m.due.time m.port g.time q) is
          (none_before a b front mid w.0 others old.to at (move_of d) q g f inside counts less
          (alike_at q (omega (arith, less, h.beside.is_plan_too.settings_count)) there_q) (sym (s.dues_are q less) ∙ e)));
      goes = goes;
      own = record { made = there.made; from_one = there.from_one; settings = there.settings ∙ settings };
    } where
      before_own : (o : Option (ℕ × Due)) → ComesFirst (slice_index_or old.moves at d) o → IsOwnNext b live old.to o → (q : ℕ) (g : Due)
          → q < count b → due_at live q ≡ Some g → (slice_index_or old.moves at d).due.time ≤ b.end
          → (slice_index_or old.moves at d).due.time < old.to
          → IsNoLater (slice_index_or old.moves at d).due.time ((slice_index_or old.moves at d).port - 1) g.time q
      before_own None c o q g less e soon early =
          ⊎_elim
          (λ (late : b.end < g.time). later_time _ _ g.time q (omega arith))
          (λ (inside : g.time ≤ b.end). later_time _ _ g.time q (let t = o q g less e inside in omega arith))
          (cases_lt b.end g.time)
      before_own (Some r) c o q g less e soon early =
          no_later-trans _ _ r.1.time (r.0 - 1) g.time q
          (⊎_elim
          (λ (sooner : (slice_index_or old.moves at d).due.time < r.1.time). later_time _ _ r.1.time (r.0 - 1) sooner)
          (λ (same : ((slice_index_or old.moves at d).due.time ≡ r.1.time) × ((slice_index_or old.moves at d).port < r.0)). record {
            by_time = (let t = same.0 in omega arith);
            by_port = λ _. (let lower = same.1 in omega arith);
          })
          c)
          (o.0.first.least q g less e)

-- a port that moves for itself is the next one
pub own_turn : (n : ℕ) (a : Plan) (all : List Move) (old : RunData) (b : Plan) (past : List Move) (from most first meter : ℕ)
    (course : Course) (live : LiveData) (at : ℕ) (port : ℕ) (due : Due)
    → (h : HasCome n a all old b past from most first meter course live)
    → IsNextFollowed old.moves course.away course.at at
    → ((d : KeptData) → at < length old.moves → ComesAfter (slice_index_or old.moves at d) port due)
    → IsNext b live port due → due.time < old.to → (d : KeptData)
    → (slice_index_or course.away (port - 1) false ≡ false) × IsNext b h.whole port due
own_turn n a all old b past from most first meter course live at port due h next after own early d =
    let others : List Move = past ++ map move_of course.span.moves in
    let front : List Move = before from all in
    let mid : List Move = map move_of old.moves in
    let w = followed_by n a all old b past from h.beside in
    let f = w.1 in
    let long = length-map old.moves move_of in
    let counts : count a ≡ count b = h.beside.is_plan.settings_count ∙ sym h.beside.is_plan_too.settings_count in
    let s = h.but.stands in
    next_of_own b others course.away h.whole live port due h.but own (λ q g less away e.
    let less_n : q < n = omega (arith, less, h.beside.is_plan_too.settings_count) in
    let alike : PortIsAlike a b (front ++ take at mid) others q old.to =
    alike_there n a all old b past from most first meter course live at d q h next less_n away in
    let e_after = sym (s.dues_are q less) ∙ e in
    ⊎_elim
    (λ (inside : at < length old.moves).
    let k : KeptData = slice_index_or old.moves at d in
    let is : get_or mid at (move_of d) ≡ move_of k = mid_at old.moves at d in
    let numbered = (h.beside.own at d inside).from_one in
    let then : IsNoLater k.due.time (k.port - 1) g.time q =
    subst (λ (m : Move). IsNoLater m.due.time m.port g.time q) is
    (none_before a b front mid w.0 others old.to at (move_of d) q g f (omega arith) counts less alike e_after) in
    no_later-trans due.time (port - 1) k.due.time (k.port - 1) g.time q
    (⊎_elim
    (λ (sooner : due.time < k.due.time). later_time due.time (port - 1) k.due.time (k.port - 1) sooner)
    (λ (same : (due.time ≡ k.due.time) × (port ≤ k.port)). record {
      by_time = (let t = same.0 in omega arith);
      by_port = λ _. (let lower = same.1 in omega arith);
    })
    (after d inside))
    then)
    (λ (past_all : length old.moves ≤ at).
    let whole_mid : take at mid ≡ mid = take_all at mid (omega arith) in
    let alike_end : PortIsAlike a b (front ++ mid) others q old.to =
    subst (λ (l : List Move). PortIsAlike a b (front ++ l) others q old.to) whole_mid alike in
    ⊎_elim
    (λ (late : b.end < g.time). later_time due.time (port - 1) g.time q (let soon = own.first.soon in omega arith))
    (λ (within : g.time ≤ b.end).
    let late = none_due a b front mid w.0 others old.to q g f counts less alike_end e_after within in
    later_time due.time (port - 1) g.time q (omega arith))
    (cases_lt b.end g.time))
    (cases_lt at (length old.moves)))

-- nothing is left before the end of the span
pub all_through : (n : ℕ) (a : Plan) (all : List Move) (old : RunData) (b : Plan) (past : List Move) (from most first meter : ℕ)
    (course : Course) (live : LiveData) → (h : HasCome n a all old b past from most first meter course live)
    → length old.moves ≤ course.at → IsLate b live old.to → KeptData
    → IsThrough n a all old b past from most first meter course live
all_through n a all old b past from most first meter course live h over late d =
    let others : List Move = past ++ map move_of course.span.moves in
    let front : List Move = before from all in
    let mid : List Move = map move_of old.moves in
    let w = followed_by n a all old b past from h.beside in
    let long = length-map old.moves move_of in
    let counts : count a ≡ count b = h.beside.is_plan.settings_count ∙ sym h.beside.is_plan_too.settings_count in
    let s = h.but.stands in
    let rising = h.beside.rising in
    let within = h.within in
    record {
      come = h;
      over = omega arith;
      up = up_to b others old.to s.runs.chained s.runs.ordered s.runs.answered s.runs.timely
          (All-append (IsEarlier old.to) past (map move_of course.span.moves)
          (λ k e lt. let x = h.beside.up.earlier k e lt in omega arith) h.earlier)
          (λ p g lt e soon.
          let lt_n : p < n = omega (arith, lt, h.beside.is_plan_too.settings_count) in
          ⊎_elim
          (λ (away : slice_index_or course.away p false ≡ true).
          let whole_mid : take course.at mid ≡ mid = take_all course.at mid (omega arith) in
          none_due a b front mid w.0 others old.to p g w.1 counts lt
          (subst (λ (l : List Move). PortIsAlike a b (front ++ l) others p old.to) whole_mid (h.alike p lt_n away)) e soon)
          (λ (here : slice_index_or course.away p false ≡ false).
          late p g lt (h.but.dues_are p lt here ∙ s.dues_are p lt ∙ e) soon)
          (cases_Bool (slice_index_or course.away p false)));
    }

-- One move more.

-- a port has moved as in the old run
pub came_followed : (n : ℕ) (a : Plan) (all : List Move) (old : RunData) (b : Plan) (past : List Move) (from most first meter : ℕ)
    (course then : Course) (live on : LiveData) (at : ℕ) (d : KeptData)
    → (h : HasCome n a all old b past from most first meter course live)
    → IsNextFollowed old.moves course.away course.at at → at < length old.moves
    → IsPassing b (past ++ map move_of course.span.moves) course.away h.whole live (slice_index_or old.moves at d)
    → HasPassed b (past ++ map move_of course.span.moves) course.away h.whole on (slice_index_or old.moves at d)
    → on.ports ≡ live.ports → course.at ≡ at → then.at ≡ at + 1 → then.same_holds ≡ course.same_holds
    → then.away ≡ course.away → then.places ≡ course.places
    → then.span.first ≡ course.span.first → then.span.moves ≡ course.span.moves ++ slice_index_or old.moves at d ∷ []
    → HasCameOn n a all old b past from most first meter then on (length course.span.moves)
came_followed n a all old b past from most first meter course then live on at d h next lt is passed ports here at_is held_is
    away_is places_is first_is moves_is =
    let k : KeptData = slice_index_or old.moves at d in
    let kept : List KeptData = course.span.moves in
    let others : List Move = past ++ map move_of kept in
    let front : List Move = before from all in
    let mid : List Move = map move_of old.moves in
    let w = followed_by n a all old b past from h.beside in
    let f = w.1 in
    let long = length-map old.moves move_of in
    let inside : at < length mid = omega arith in
    let mid_is : get_or mid at (move_of d) ≡ move_of k = mid_at old.moves at d in
    let more : past ++ map move_of then.span.moves ≡ others ++ move_of k ∷ [] =
    ap (λ (l : List KeptData). past ++ map move_of l) moves_is ∙ one_more past kept k in
    let moves_more : map move_of then.span.moves ≡ map move_of kept ++ move_of k ∷ [] =
    ap (map move_of) moves_is ∙ map-append move_of kept (k ∷ []) in
    let count_more : length then.span.moves ≡ length kept + 1 = ap length moves_is ∙ length_push kept k in
    let from_k : from ≤ k.due.time =
    subst (λ (m : Move). from ≤ m.due.time) mid_is (later_in n a all old b past from h.beside at (move_of d) inside) in
    let early_k : k.due.time < old.to = subst (λ (m : Move). m.due.time < old.to) mid_is (f.early at (move_of d) inside) in
    record {
      more = omega arith;
      come = record {
        beside = h.beside;
        whole = passed.then;
        but = subst (λ (l : List Bool). StandsBut b (past ++ map move_of then.span.moves) l passed.then on) (sym away_is)
            (subst (λ (l : List Move). StandsBut b l course.away passed.then on) (sym more) passed.but);
        within = omega arith;
        alike = λ p less away.
            let away_p : IsAway course.away p = ap (λ (l : List Bool). slice_index_or l p false) (sym away_is) ∙ away in
            let there = alike_there n a all old b past from most first meter course live at d p h next less away_p in
            let known : p < count b = omega (arith, less, h.beside.is_plan_too.settings_count) in
            subst (λ i. PortIsAlike a b (front ++ take i mid) (past ++ map move_of then.span.moves) p old.to) (sym at_is)
            (subst (λ (l : List Move). PortIsAlike a b (front ++ take (at + 1) mid) l p old.to) (sym more)
            (subst (λ (m : Move). PortIsAlike a b (front ++ take (at + 1) mid) (others ++ m ∷ []) p old.to) mid_is
            (alike_on a b front mid w.0 others old.to at p (move_of d) f inside known there)));
        held = λ yes.
            let there = subst (λ i. HoldAlike a b from old.to (front ++ take i mid) others) here (h.held (sym held_is ∙ yes)) in
            subst (λ i. HoldAlike a b from old.to (front ++ take i mid) (past ++ map move_of then.span.moves)) (sym at_is)
            (subst (HoldAlike a b from old.to (front ++ take (at + 1) mid)) (sym more)
            (held_both a b front w.0 others old.moves from old.to at d f h.beside.own lt there is.own is.goes));
        room = (ap length away_is ∙ h.room.0, ap length places_is ∙ h.room.1);
        placed = λ p less here.
            let here_p = ap (λ (l : List Bool). slice_index_or l p false) (sym away_is) ∙ here in
            subst (λ (l : List PortData). IsKnown old.first old.moves p (slice_index_or then.places p None) (slice_index_or l p no_port))
            (sym ports)
            (subst (λ (l : List (Option Place)). IsKnown old.first old.moves p (slice_index_or l p None) (port_at live p)) (sym places_is)
            (h.placed p less here_p));
        own = subst (All (IsOwn b)) (sym moves_is) (All-push (IsOwn b) kept k h.own is.own);
        begun = begins_same n b past course.span then.span first_is h.begun;
        earlier = subst (All (IsEarlier old.to)) (sym moves_more) (All-push (IsEarlier old.to) (map move_of kept) (move_of k) h.earlier
            early_k);
        later = subst (All (IsLater from)) (sym moves_more) (All-push (IsLater from) (map move_of kept) (move_of k) h.later from_k);
        few = (let less = passed.less in let few = h.few in omega arith);
        cost = λ olds own those.
            let cost = h.cost olds own those in
            let has = (those k from_k early_k).1 (at, lt, get_or_default old.moves at k d lt) in
            let own_k : IsOwn a k = h.beside.own at d lt in
            let same : settings_of a (k.port - 1) ≡ settings_of b (k.port - 1) = sym own_k.settings ∙ is.own.settings in
            let long_olds = length-map olds move_of in
            let repeated : IsRepeated a (map move_of olds) b (move_of k) = (
              move_of k,
              (has.0, (let i = has.1 in omega arith), list_map.get_or-map move_of olds has.0 k ∙ ap move_of has.2),
              record { port = refl; before = refl; settings = same; due = refl; answer = refl },
            ) in (
              cost.0,
              subst (λ (l : List Move). AreFresh a (map move_of olds) b l cost.0) (sym moves_more)
                  (fresh-push_repeated a (map move_of olds) b (map move_of kept) (move_of k) cost.0 cost.1 repeated),
              cost.2,
            );
      };
    }

-- what a port that moves for itself is answered is the answer after the moves
answer_known : (b : Plan) (others : List Move) (away : List Bool) (whole live : LiveData) (p : ℕ) (d : Due)
    → StandsBut b others away whole live → slice_index_or away p false ≡ false → p < count b
    → whole.account.budget ≡ force b d.time → reply_at live p d ≡ (next_move b others p d).answer
answer_known b others away whole live p d but here known budget =
    ap (λ (x : PortData). option_map (answer_of live.account p) (ask x.settings x.port_record d)) (but.ports_are p known here)
    ∙ ap (λ (a : Account). option_map (answer_of a p) (ask (port_at whole p).settings (port_at whole p).port_record d)) but.account_is
    ∙ reply_known b others whole p d but.stands budget known

-- a port has moved for itself
pub came_own : (n : ℕ) (a : Plan) (all : List Move) (old : RunData) (b : Plan) (past : List Move) (from most first before_it after_it : ℕ)
    (course then : Course) (live asked on : LiveData) (port : ℕ) (d : Due) (answer : Option Answer) (place : Option Place)
    → (h : IsOwnTurn n a all old b past from most first before_it course live port d)
    → asked ≡ at_budget live (force b d.time) → answer ≡ reply_at asked (port - 1) d
    → on ≡ moved_live b asked (port - 1) d
    → then.at ≡ course.at
    → (IsTrue then.same_holds → IsTrue course.same_holds × (held_by (port_at on (port - 1)) ≡ held_by (port_at live (port - 1))))
    → then.away ≡ course.away
    → then.places ≡ slice_set course.places (port - 1) place → then.span.first ≡ course.span.first
    → then.span.moves ≡ course.span.moves ++ kept_of port (port_at asked (port - 1)) d answer ∷ []
    → IsKnown old.first old.moves (port - 1) place (moved_port asked (port - 1) d)
    → Charges old.moves (kept_of port (port_at asked (port - 1)) d answer) before_it after_it
    → HasCameOn n a all old b past from most first after_it then on (length course.span.moves)
came_own n a all old b past from most first before_it after_it course then live asked on port d answer place o asked_is answer_is on_is
    at_is held_is away_is places_is first_is moves_is known_place charges =
    let h = o.come in
    let p = port - 1 in
    let kept : List KeptData = course.span.moves in
    let others : List Move = past ++ map move_of kept in
    let front : List Move = before from all in
    let mid : List Move = map move_of old.moves in
    let budget = force b d.time in
    let whole : LiveData = at_budget h.whole budget in
    let lived : LiveData = at_budget live budget in
    let but : StandsBut b others course.away whole asked =
    subst (λ (l : LiveData). StandsBut b others course.away whole l) (sym asked_is)
    (StandsBut-budget b others course.away h.whole live budget h.but) in
    let next : IsNext b whole port d = IsNext-budget b h.whole port d budget o.next in
    let is = h.beside.is_plan_too in
    let known : p < count b = next.first.known in
    let known_n : p < n = omega (arith, known, is.settings_count) in
    let s = but.stands in
    let x : PortData = port_at asked p in
    let x_is : x ≡ port_after b others p = but.ports_are p known o.here ∙ s.ports_are p known in
    let k : KeptData = kept_of port x d answer in
    let a_is : answer ≡ (next_move b others p d).answer =
    answer_is ∙ answer_known b others course.away whole asked p d but o.here known refl in
    let same : move_of k ≡ next_move b others p d = kept_is_next b others port x d answer x_is a_is in
    let own_k : IsOwn b k = kept_is_own b others port x d answer next.from_one x_is in
    let more : past ++ map move_of then.span.moves ≡ others ++ move_of k ∷ [] =
    ap (λ (l : List KeptData). past ++ map move_of l) moves_is ∙ one_more past kept k in
    let moves_more : map move_of then.span.moves ≡ map move_of kept ++ move_of k ∷ [] =
    ap (map move_of) moves_is ∙ map-append move_of kept (k ∷ []) in
    let count_more : length then.span.moves ≡ length kept + 1 = ap length moves_is ∙ length_push kept k in
    let stood = StandsBut-moved n b others course.away whole asked port d is but o.here next refl in
    let after : StandsBut b (others ++ move_of k ∷ []) course.away (moved_live b whole p d) on =
    subst (λ (l : LiveData). StandsBut b (others ++ move_of k ∷ []) course.away (moved_live b whole p d) l) (sym on_is)
    (subst (λ (m : Move). StandsBut b (others ++ m ∷ []) course.away (moved_live b whole p d) (moved_live b asked p d)) (sym same) stood) in
    let less = steps_left_less n b others whole (moved_live b whole p d) p d is s next.first stood.stands in
    let from_d : from ≤ d.time =
    due_later_yet b past (map move_of kept) from p d h.beside.up s.runs known (sym (s.dues_are p known) ∙ next.first.is_due)
    next.first.soon in
    let z : PortData = moved_port asked p d in
    let ports : on.ports ≡ slice_set asked.ports p z = ap (λ (l : LiveData). l.ports) on_is in
    let at_p : port_at on p ≡ z =
    ap (λ (l : List PortData). get_or l p no_port) ports
    ∙ get_or-set_same asked.ports p z no_port (omega (arith, but.ports_count, known)) in
    let left_is : held_by k.after ≡ held_by (port_at on p) =
    ap (λ (o : Option Answer). held_by (record { settings = x.settings; port_record = record_after x.settings x.port_record d o }))
    answer_is ∙ ap held_by (sym at_p) in
    let goes_k : GoesOn b others (move_of k) =
    subst (GoesOn b others) (sym same) (record {
      known = known;
      before_is = refl;
      due_is = sym (s.dues_are p known) ∙ next.first.is_due;
      entry_is = refl;
    }) in
    let isnt_p : (q : ℕ) → IsAway course.away q → p ≢ q = λ q away e. absurd (let t = ap (λ i. slice_index_or course.away i false) e ∙
    away in
    let f = o.here in cc) in
    record {
      more = omega arith;
      come = record {
        beside = h.beside;
        whole = moved_live b whole p d;
        but = subst (λ (l : List Bool). StandsBut b (past ++ map move_of then.span.moves) l (moved_live b whole p d) on) (sym away_is)
            (subst (λ (l : List Move). StandsBut b l course.away (moved_live b whole p d) on) (sym more) after);
        within = (let e = h.within in omega arith);
        alike = λ q lt away.
            let away_q : IsAway course.away q = ap (λ (l : List Bool). slice_index_or l q false) (sym away_is) ∙ away in
            subst (λ i. PortIsAlike a b (front ++ take i mid) (past ++ map move_of then.span.moves) q old.to) (sym at_is)
            (subst (λ (l : List Move). PortIsAlike a b (front ++ take course.at mid) l q old.to) (sym more)
            (stands_aside_too a b old.to (front ++ take course.at mid) others (move_of k) q (isnt_p q away_q) (h.alike q lt away_q)));
        held = λ yes.
            subst (λ i. HoldAlike a b from old.to (front ++ take i mid) (past ++ map move_of then.span.moves)) (sym at_is)
            (subst (HoldAlike a b from old.to (front ++ take course.at mid)) (sym more)
            (held_own a b from old.to (front ++ take course.at mid) others k (h.held (held_is yes).0) own_k goes_k
            (left_is ∙ (held_is yes).1 ∙ ap (λ (l : LiveData). held_by (port_at l p)) (sym asked_is))));
        room = (ap length away_is ∙ h.room.0, ap length places_is ∙ length-set course.places p place ∙ h.room.1);
        placed = λ q lt here.
            let here_q = ap (λ (l : List Bool). slice_index_or l q false) (sym away_is) ∙ here in
            let enough = h.room.1 in
            let few = is.few_ports in
            let count = is.settings_count in
            subst (λ (l : List PortData). IsKnown old.first old.moves q (slice_index_or then.places q None) (slice_index_or l q no_port))
            (sym ports)
            (subst (λ (l : List (Option Place)). IsKnown old.first old.moves q (slice_index_or l q None)
            (get_or (set asked.ports p z) q no_port)) (sym places_is)
            (⊎_elim
            (λ (e : q ≡ p).
            subst (λ i. IsKnown old.first old.moves i (get_or (set course.places p place) i None) (get_or (set asked.ports p z) i no_port))
            (sym e)
            (subst (λ (v : Option Place). IsKnown old.first old.moves p v (get_or (set asked.ports p z) p no_port))
            (sym (get_or-set_same course.places p place None (omega arith)))
            (subst (λ (y : PortData). IsKnown old.first old.moves p place y)
            (sym (get_or-set_same asked.ports p z no_port (let c = but.ports_count in omega arith))) known_place)))
            (λ (e : q ≢ p).
            subst (λ (v : Option Place). IsKnown old.first old.moves q v (get_or (set asked.ports p z) q no_port))
            (sym (get_or-set_other course.places p q place None e))
            (subst (λ (y : PortData). IsKnown old.first old.moves q (get_or course.places q None) y)
            (sym (get_or-set_other asked.ports p q z no_port e ∙ ap (λ (l : LiveData). port_at l q) asked_is))
            (h.placed q lt here_q)))
            (cases_eq q p)));
        own = subst (All (IsOwn b)) (sym moves_is) (All-push (IsOwn b) kept k h.own own_k);
        begun = begins_same n b past course.span then.span first_is h.begun;
        earlier = subst (All (IsEarlier old.to)) (sym moves_more) (All-push (IsEarlier old.to) (map move_of kept) (move_of k) h.earlier
            o.soon);
        later = subst (All (IsLater from)) (sym moves_more) (All-push (IsLater from) (map move_of kept) (move_of k) h.later from_d);
        few = (let bound = h.few in let budget_is = steps_budget b h.whole budget in omega arith);
        cost = λ olds own those.
            subst (λ (l : List Move). Costs a (map move_of olds) b l first after_it) (sym moves_more)
            (fresh_step a b olds (map move_of kept) port x d answer first before_it after_it next.from_one own own_k.settings
            (charges_those olds old.moves k from old.to before_it after_it those from_d o.soon charges) (h.cost olds own those));
      };
    } where
      steps_budget : (plan : Plan) (l : LiveData) (budget : ℕ) → steps_left plan (at_budget l budget) ≡ steps_left plan l
      steps_budget plan l budget = refl

-- a port that followed is answered otherwise: it is the next one, and moves for itself
pub turned : (n : ℕ) (a : Plan) (all : List Move) (old : RunData) (b : Plan) (past : List Move) (from most first meter : ℕ)
    (course then : Course) (live on : LiveData) (k : KeptData) (place : Place)
    → (h : IsFollowedTurn n a all old b past from most first meter course live) → slice_index_or old.moves course.at k ≡ k
    → course.at < length old.moves
    → on ≡ taken_up b live (k.port - 1) k.before → then.at ≡ course.at → then.same_holds ≡ course.same_holds
    → then.away ≡ slice_set course.away (k.port - 1) false → then.places ≡ slice_set course.places (k.port - 1) (Some place)
    → then.span ≡ course.span → IsKnown old.first old.moves (k.port - 1) (Some place) k.before
    → IsOwnTurn n a all old b past from most first meter then on k.port k.due
turned n a all old b past from most first meter course then live on k place t k_is inside on_is at_is held_is away_is places_is
    span_is known_place =
    let h = t.come in
    let p = k.port - 1 in
    let others : List Move = past ++ map move_of course.span.moves in
    let front : List Move = before from all in
    let mid : List Move = map move_of old.moves in
    let passing : IsPassing b others course.away h.whole live k =
    subst (λ (m : KeptData). IsPassing b others course.away h.whole live m) k_is (t.passing k) in
    let is = h.beside.is_plan_too in
    let known : p < count b = passing.next.first.known in
    let known_n : p < n = omega (arith, known, is.settings_count) in
    let few = is.few_ports in
    let count = is.settings_count in
    let room = h.room.0 in
    let room_too = h.room.1 in
    let s = h.but.stands in
    let stood : k.before ≡ port_at h.whole p = before_is b others k passing.own.settings passing.goes.before_is
    ∙ sym (s.ports_are p known) in
    let but : StandsBut b others (slice_set course.away p false) h.whole on =
    subst (λ (l : LiveData). StandsBut b others (slice_set course.away p false) h.whole l) (sym on_is)
    (StandsBut-taken_up b others course.away h.whole live p k.before h.but known (omega arith) stood) in
    let others_is : past ++ map move_of then.span.moves ≡ others = ap (λ (r : RunData). past ++ map move_of r.moves) span_is in
    let moves_is : then.span.moves ≡ course.span.moves = ap (λ (r : RunData). r.moves) span_is in
    let at_p : slice_index_or then.away p false ≡ false =
    ap (λ (l : List Bool). slice_index_or l p false) away_is ∙ get_or-set_same course.away p false false (omega arith) in
    let inside_ports : p < length live.ports = omega (arith, h.but.ports_count) in
    let early = early_at n a all old b past from k h.beside k_is inside in
    let come : HasCome n a all old b past from most first meter then on = record {
      beside = h.beside;
      whole = h.whole;
      but = subst (λ (l : List Bool). StandsBut b (past ++ map move_of then.span.moves) l h.whole on) (sym away_is)
          (subst (λ (l : List Move). StandsBut b l (slice_set course.away p false) h.whole on) (sym others_is) but);
      within = omega arith;
      alike = λ q lt away.
          let set_q : slice_index_or (slice_set course.away p false) q false ≡ true =
          ap (λ (l : List Bool). slice_index_or l q false) (sym away_is) ∙ away in
          let isnt : q ≢ p = λ e. absurd (let f = ap (λ i. slice_index_or (slice_set course.away p false) i false) e
          ∙ get_or-set_same course.away p false false (omega arith) in cc) in
          let away_q : IsAway course.away q = sym (get_or-set_other course.away p q false false isnt) ∙ set_q in
          subst (λ i. PortIsAlike a b (front ++ take i mid) (past ++ map move_of then.span.moves) q old.to) (sym at_is)
          (subst (λ (l : List Move). PortIsAlike a b (front ++ take course.at mid) l q old.to) (sym others_is) (h.alike q lt away_q));
      held = λ yes.
          subst (λ i. HoldAlike a b from old.to (front ++ take i mid) (past ++ map move_of then.span.moves)) (sym at_is)
          (subst (HoldAlike a b from old.to (front ++ take course.at mid)) (sym others_is) (h.held (sym held_is ∙ yes)));
      room = (
        ap length away_is ∙ length-set course.away p false ∙ room,
        ap length places_is
            ∙ length-set course.places p (Some place) ∙ room_too,
      );
      placed = λ q lt here.
          let set_q : slice_index_or (slice_set course.away p false) q false ≡ false =
          ap (λ (l : List Bool). slice_index_or l q false) (sym away_is) ∙ here in
          subst (λ (l : List (Option Place)). IsKnown old.first old.moves q (slice_index_or l q None) (port_at on q)) (sym places_is)
          (subst (λ (l : LiveData). IsKnown old.first old.moves q (slice_index_or (slice_set course.places p (Some place)) q None)
          (port_at l q)) (sym on_is)
          (⊎_elim
          (λ (e : q ≡ p).
          subst (λ i. IsKnown old.first old.moves i (get_or (set course.places p (Some place)) i None)
          (get_or (set live.ports p k.before) i no_port)) (sym e)
          (subst (λ (v : Option Place). IsKnown old.first old.moves p v (get_or (set live.ports p k.before) p no_port))
          (sym (get_or-set_same course.places p (Some place) None (omega arith)))
          (subst (λ (y : PortData). IsKnown old.first old.moves p (Some place) y)
          (sym (get_or-set_same live.ports p k.before no_port inside_ports)) known_place)))
          (λ (e : q ≢ p).
          let here_q = sym (get_or-set_other course.away p q false false e) ∙ set_q in
          subst (λ (v : Option Place). IsKnown old.first old.moves q v (get_or (set live.ports p k.before) q no_port))
          (sym (get_or-set_other course.places p q (Some place) None e))
          (subst (λ (y : PortData). IsKnown old.first old.moves q (get_or course.places q None) y)
          (sym (get_or-set_other live.ports p q k.before no_port e)) (h.placed q lt here_q)))
          (cases_eq q p)));
      own = subst (All (IsOwn b)) (sym moves_is) h.own;
      begun = begins_same n b past course.span then.span (ap (λ (r : RunData). r.first) span_is) h.begun;
      earlier = subst (λ (l : List KeptData). All (IsEarlier old.to) (map move_of l)) (sym moves_is) h.earlier;
      later = subst (λ (l : List KeptData). All (IsLater from) (map move_of l)) (sym moves_is) h.later;
      few = (let e = ap length moves_is in let bound = h.few in omega arith);
      cost = λ olds own those. subst (λ (l : List KeptData). Costs a (map move_of olds) b (map move_of l) first meter) (sym moves_is)
          (h.cost olds own those);
    } in
    record { come = come; here = at_p; next = passing.next; soon = early } where
      before_is : (plan : Plan) (moves : List Move) (m : KeptData) → m.before.settings ≡ settings_of plan (m.port - 1)
          → m.before.port_record ≡ (standing plan moves (m.port - 1)).state → m.before ≡ port_after plan moves (m.port - 1)
      before_is plan moves m settings state = λ i. record { settings = settings i; port_record = state i }

      early_at : (c : ℕ) (x : Plan) (whole : List Move) (r : RunData) (y : Plan) (past_y : List Move) (start : ℕ) (m : KeptData)
          → GoBeside c x whole r y past_y start → slice_index_or r.moves course.at m ≡ m → course.at < length r.moves → m.due.time < r.to
      early_at c x whole r y past_y start m g m_is lt =
          let w = followed_by c x whole r y past_y start g in
          let long = length-map r.moves move_of in
          subst (λ (z : Move). z.due.time < r.to) (mid_at r.moves course.at m ∙ ap move_of m_is) (w.1.early course.at (move_of m) (omega
          arith))

-- What a turn asks of the old run and of the ports.

-- the ports at the budget of the due's time
pub own_asked : (n : ℕ) (a : Plan) (all : List Move) (old : RunData) (b : Plan) (past : List Move) (from most first meter : ℕ)
    (course : Course) (live asked : LiveData) (port : ℕ) (d : Due)
    → (o : IsOwnTurn n a all old b past from most first meter course live port d) → asked ≡ at_budget live (force b d.time)
    → StandsBut b (past ++ map move_of course.span.moves) course.away (at_budget o.come.whole (force b d.time)) asked
own_asked n a all old b past from most first meter course live asked port d o is =
    let others : List Move = past ++ map move_of course.span.moves in
    subst (λ (l : LiveData). StandsBut b others course.away (at_budget o.come.whole (force b d.time)) l) (sym is)
    (StandsBut-budget b others course.away o.come.whole live (force b d.time) o.come.but)

-- its port is the next one
pub own_is_next : (n : ℕ) (a : Plan) (all : List Move) (old : RunData) (b : Plan) (past : List Move) (from most first meter : ℕ)
    (course : Course) (live asked : LiveData) (port : ℕ) (d : Due)
    → (o : IsOwnTurn n a all old b past from most first meter course live port d) → asked ≡ at_budget live (force b d.time)
    → IsNextBeside b (past ++ map move_of course.span.moves) (at_budget o.come.whole (force b d.time)) port d asked
own_is_next n a all old b past from most first meter course live asked port d o is =
    next_beside b (past ++ map move_of course.span.moves) course.away (at_budget o.come.whole (force b d.time)) asked port d
    (own_asked n a all old b past from most first meter course live asked port d o is) o.here
    (IsNext-budget b o.come.whole port d (force b d.time) o.next) refl

-- it stands at its place
pub own_place : (n : ℕ) (a : Plan) (all : List Move) (old : RunData) (b : Plan) (past : List Move) (from most first meter : ℕ)
    (course : Course) (live asked : LiveData) (port : ℕ) (d : Due)
    → IsOwnTurn n a all old b past from most first meter course live port d → asked ≡ at_budget live (force b d.time)
    → IsKnown old.first old.moves (port - 1) (slice_index_or course.places (port - 1) None) (port_at asked (port - 1))
own_place n a all old b past from most first meter course live asked port d o is =
    let count = o.come.beside.is_plan_too.settings_count in
    let known = o.next.first.known in
    subst (λ (l : LiveData). IsKnown old.first old.moves (port - 1) (slice_index_or course.places (port - 1) None) (port_at l (port - 1)))
    (sym is) (o.come.placed (port - 1) (omega arith) o.here)

-- and as the moves so far leave it
pub own_left : (n : ℕ) (a : Plan) (all : List Move) (old : RunData) (b : Plan) (past : List Move) (from most first meter : ℕ)
    (course : Course) (live asked : LiveData) (port : ℕ) (d : Due)
    → IsOwnTurn n a all old b past from most first meter course live port d → asked ≡ at_budget live (force b d.time)
    → port_at asked (port - 1) ≡ left_by course.span.first course.span.moves (port - 1)
own_left n a all old b past from most first meter course live asked port d o is =
    let but = own_asked n a all old b past from most first meter course live asked port d o is in
    let count = o.come.beside.is_plan_too.settings_count in
    let known = o.next.first.known in
    but.ports_are (port - 1) known o.here ∙ but.stands.ports_are (port - 1) known
    ∙ sym (left_after n b past course.span (port - 1) o.come.begun o.come.own (omega arith))

-- a move that follows begins where the moves so far leave its port
pub passing_left : (n : ℕ) (a : Plan) (all : List Move) (old : RunData) (b : Plan) (past : List Move) (from most first meter : ℕ)
    (course : Course) (live : LiveData) (whole : LiveData) (k : KeptData)
    → HasCome n a all old b past from most first meter course live
    → IsPassing b (past ++ map move_of course.span.moves) course.away whole live k
    → k.before ≡ left_by course.span.first course.span.moves (k.port - 1)
passing_left n a all old b past from most first meter course live whole k h p =
    let count = h.beside.is_plan_too.settings_count in
    let known = p.next.first.known in
    let settings = p.own.settings in
    let state = p.goes.before_is in
    let stood : k.before ≡ port_after b (past ++ map move_of course.span.moves) (k.port - 1) =
    λ i. record { settings = settings i; port_record = state i } in
    stood ∙ sym (left_after n b past course.span (k.port - 1) h.begun h.own (omega arith))

-- the port of a move that follows is one of the ports
pub turn_port : (n : ℕ) (a : Plan) (all : List Move) (old : RunData) (b : Plan) (past : List Move) (from most first meter : ℕ)
    (course : Course) (live : LiveData) (k : KeptData) → IsFollowedTurn n a all old b past from most first meter course live
    → slice_index_or old.moves course.at k ≡ k → (1 ≤ k.port) × (k.port ≤ n) × (k.port ≤ 8)
turn_port n a all old b past from most first meter course live k t is =
    let p = subst (λ (m : KeptData). IsPassing b (past ++ map move_of course.span.moves) course.away t.come.whole live m) is (t.passing
    k) in
    let one = p.next.from_one in
    let known = p.next.first.known in
    let plan_is = t.come.beside.is_plan_too in
    let count = plan_is.settings_count in
    let few = plan_is.few_ports in
    (one, (omega arith), (omega arith))

-- How far it has come at the next move that is followed, and at another budget.

pub advanced : (n : ℕ) (a : Plan) (all : List Move) (old : RunData) (b : Plan) (past : List Move) (from most first meter : ℕ)
    (course then : Course) (live : LiveData) (d : KeptData) → HasCome n a all old b past from most first meter course live
    → IsNextFollowed old.moves then.away course.at then.at
    → (IsTrue then.same_holds → IsTrue course.same_holds × KeepHold old.moves course.at then.at)
    → then ≡ record course { at = then.at; same_holds = then.same_holds }
    → HasCome n a all old b past from most first meter then live
advanced n a all old b past from most first meter course then live d h next_then keep is =
    let at = then.at in
    let next : IsNextFollowed old.moves course.away course.at at =
    subst (λ (l : List Bool). IsNextFollowed old.moves l course.at at) (ap (λ (c : Course). c.away) is) next_then in
    subst (λ (c : Course). HasCome n a all old b past from most first meter c live) (sym is) (record {
      beside = h.beside;
      whole = h.whole;
      but = h.but;
      within = next.within;
      alike = λ p lt away. alike_there n a all old b past from most first meter course live at d p h next lt away;
      held = λ known.
          let w = followed_by n a all old b past from h.beside in
          let others : List Move = past ++ map move_of course.span.moves in
          let from_on = next.from_on in
          let within = next.within in
          let there : course.at + (at - course.at) ≡ at = omega arith in
          subst (λ i. HoldAlike a b from old.to (before from all ++ take i (map move_of old.moves)) others) there
          (held_past a b (before from all) w.0 others old.moves from old.to course.at (at - course.at) d w.1 h.beside.own (omega arith)
          (λ i k ge lt. (keep known).1 i k ge (omega arith)) (h.held (keep known).0));
      room = h.room;
      placed = h.placed;
      own = h.own;
      begun = h.begun;
      earlier = h.earlier;
      later = h.later;
      few = h.few;
      cost = h.cost;
    })

pub come_budget : (n : ℕ) (a : Plan) (all : List Move) (old : RunData) (b : Plan) (past : List Move) (from most first meter : ℕ)
    (course : Course) (live : LiveData) (budget : ℕ) → HasCome n a all old b past from most first meter course live
    → HasCome n a all old b past from most first meter course (at_budget live budget)
come_budget n a all old b past from most first meter course live budget h = record {
  beside = h.beside;
  whole = at_budget h.whole budget;
  but = StandsBut-budget b (past ++ map move_of course.span.moves) course.away h.whole live budget h.but;
  within = h.within;
  alike = h.alike;
  held = h.held;
  room = h.room;
  placed = h.placed;
  own = h.own;
  begun = h.begun;
  earlier = h.earlier;
  later = h.later;
  few = h.few;
  cost = h.cost;
}

-- the turn of a port that moves for itself
pub own_is_turn : (n : ℕ) (a : Plan) (all : List Move) (old : RunData) (b : Plan) (past : List Move) (from most first meter : ℕ)
    (course : Course) (live : LiveData) (port : ℕ) (due : Due) (own : Option (ℕ × Due)) (d : KeptData)
    → HasCome n a all old b past from most first meter course live → IsNextFollowed old.moves course.away course.at course.at
    → own ≡ Some (port, due) → IsOwnNext b live old.to own
    → ((k : KeptData) → course.at < length old.moves
    → MatchOption own ⊥ (λ r. ComesAfter (slice_index_or old.moves course.at k) r.0 r.1))
    → IsOwnTurn n a all old b past from most first meter course live port due
own_is_turn n a all old b past from most first meter course live port due own d h next is own_next after =
    let e : IsOwnNext b live old.to (Some (port, due)) = subst (IsOwnNext b live old.to) is own_next in
    let turn = own_turn n a all old b past from most first meter course live course.at port due h next
    (λ k lt.
    subst (λ (o : Option (ℕ × Due)). MatchOption o ⊥ (λ r. ComesAfter (slice_index_or old.moves course.at k) r.0 r.1)) is (after k lt))
    e.0 e.1 d in
    record {
      come = h;
      here = turn.0;
      next = turn.1;
      soon = e.1;
    }

-- the place of the next followed move is that of the next one from there on
pub followed_here : (moves : List KeptData) (away : List Bool) (from at : ℕ) → IsNextFollowed moves away from at
    → IsNextFollowed moves away at at
followed_here moves away from at h = record {
  from_on = omega arith;
  within = h.within;
  none = λ i k le lt. absurd (omega arith);
  there = h.there;
}

-- one more of the old run's moves has followed
pub followed_more : (course : Course) (moves : List KeptData) (at : ℕ) (d : KeptData) → course.at ≤ at → at < length moves
    → (followed_to course moves (at + 1)).span.moves ≡ (followed_to course moves at).span.moves ++ slice_index_or moves at d ∷ []
followed_more course moves at d le lt =
    ap (λ (l : List KeptData). course.span.moves ++ l) (moves_from-more moves course.at at d le lt)
    ∙ sym (append_assoc course.span.moves (moves_from moves course.at (at - course.at)) (slice_index_or moves at d ∷ []))

-- what is next on the ports that don't follow stays so where their dues do
pub own_next_on : (b : Plan) (live on : LiveData) (to : ℕ) (own : Option (ℕ × Due)) → on.dues ≡ live.dues → IsOwnNext b live to own
    → IsOwnNext b on to own
own_next_on b live on to None dues h =
    λ q f lt e soon. h q f lt (ap (λ (l : List (Option Due)). slice_index_or l q None) (sym dues) ∙ e) soon
own_next_on b live on to (Some r) dues h = (
  record {
    from_one = h.0.from_one;
    first = record {
      known = h.0.first.known;
      is_due = ap (λ (l : List (Option Due)). slice_index_or l (r.0 - 1) None) dues ∙ h.0.first.is_due;
      soon = h.0.first.soon;
      least = λ q f lt e. h.0.first.least q f lt (ap (λ (l : List (Option Due)). slice_index_or l q None) (sym dues) ∙ e);
    };
  },
  h.1,
)

-- the place of such a move is that of the next followed one
first_followed_at : (moves : List KeptData) (away : List Bool) (at : ℕ) (own : Option (ℕ × Due)) (brief : Brief)
    → IsFirstFollowed moves away at own brief → IsNextFollowed moves away at at
first_followed_at moves away at own brief q = record {
  from_on = omega arith;
  within = (let inside = q.inside in omega arith);
  none = λ i k le lt. absurd (omega arith);
  there = λ k _. ap (λ p. slice_index_or away (p - 1) false) (sym (q.brief k).port) ∙ q.there;
}

-- the move is the next one where all ports stand
pub first_passing : (n : ℕ) (a : Plan) (all : List Move) (old : RunData) (b : Plan) (past : List Move) (from most first meter : ℕ)
    (course : Course) (begun live : LiveData) (at : ℕ) (own : Option (ℕ × Due)) (brief : Brief) (d : KeptData)
    → (h : HasCome n a all old b past from most first meter (followed_to course old.moves at) live) → AreNumbered n old.moves
    → IsFirstFollowed old.moves course.away at own brief → IsOwnNext b begun old.to own → live.dues ≡ begun.dues
    → IsPassing b (past ++ map move_of (followed_to course old.moves at).span.moves) course.away h.whole live
    (slice_index_or old.moves at d)
first_passing n a all old b past from most first meter course begun live at own brief d h numbered q own_next dues =
    let there = numbered at d q.inside in
    passing n a all old b past from most first meter (followed_to course old.moves at) live at own d h
    (first_followed_at old.moves course.away at own brief q) q.inside (q.first d) (own_next_on b begun live old.to own dues own_next)
    there.0 there.1

-- where all ports hold as much as in the old run, it has the answer that it had there
pub first_answered : (n : ℕ) (a : Plan) (all : List Move) (old : RunData) (b : Plan) (past : List Move) (from most first meter : ℕ)
    (course : Course) (whole live : LiveData) (d : KeptData)
    → HasCome n a all old b past from most first meter course live → course.at < length old.moves
    → IsPassing b (past ++ map move_of course.span.moves) course.away whole live (slice_index_or old.moves course.at d)
    → IsTrue course.same_holds
    → IsAnswered b (past ++ map move_of course.span.moves) (move_of (slice_index_or old.moves course.at d))
first_answered n a all old b past from most first meter course whole live d h lt is alike =
    let k : KeptData = slice_index_or old.moves course.at d in
    let mid : List Move = map move_of old.moves in
    let w = followed_by n a all old b past from h.beside in
    let long = length-map old.moves move_of in
    let inside : course.at < length mid = omega arith in
    let mid_is : get_or mid course.at (move_of d) ≡ move_of k = mid_at old.moves course.at d in
    answered_there a b (before from all) w.0 (past ++ map move_of course.span.moves) old.moves from old.to course.at d w.1 lt (h.held alike)
    (sym (h.beside.own course.at d lt).settings ∙ is.own.settings)
    (subst (λ (m : Move). from ≤ m.due.time) mid_is (later_in n a all old b past from h.beside course.at (move_of d) inside))
    (subst (λ (m : Move). m.due.time < old.to) mid_is (w.1.early course.at (move_of d) inside))

-- and once it has passed the span has it
pub first_passed : (n : ℕ) (a : Plan) (all : List Move) (old : RunData) (b : Plan) (past : List Move) (from most first meter : ℕ)
    (course : Course) (begun live on : LiveData) (at : ℕ) (own : Option (ℕ × Due)) (brief : Brief) (d : KeptData)
    → (h : HasCome n a all old b past from most first meter (followed_to course old.moves at) live) → AreNumbered n old.moves
    → IsFirstFollowed old.moves course.away at own brief → IsOwnNext b begun old.to own → live.dues ≡ begun.dues → course.at ≤ at
    → HasPassed b (past ++ map move_of (followed_to course old.moves at).span.moves) course.away h.whole on (slice_index_or old.moves at d)
    → on.ports ≡ live.ports → HasCome n a all old b past from most first meter (followed_to course old.moves (at + 1)) on
first_passed n a all old b past from most first meter course begun live on at own brief d h numbered q own_next dues le passed ports =
    let is = first_passing n a all old b past from most first meter course begun live at own brief d h numbered q own_next dues in
    (came_followed n a all old b past from most first meter (followed_to course old.moves at) (followed_to course old.moves (at + 1))
    live on at d h (first_followed_at old.moves course.away at own brief q) q.inside is passed ports refl refl refl refl refl refl
    (followed_more course old.moves at d le q.inside)).come

-- where none has followed yet
pub none_followed : (course : Course) (moves : List KeptData)
    → course.span.moves ++ moves_from moves course.at (course.at - course.at) ≡ course.span.moves
none_followed course moves =
    let none : course.at - course.at ≡ 0 = omega arith in
    ap (λ k. course.span.moves ++ take k (drop course.at moves)) none ∙ append-nil course.span.moves

pub come_here : (n : ℕ) (a : Plan) (all : List Move) (old : RunData) (b : Plan) (past : List Move) (from most first meter : ℕ)
    (course : Course) (live : LiveData) → HasCome n a all old b past from most first meter course live
    → HasCome n a all old b past from most first meter (followed_to course old.moves course.at) live
come_here n a all old b past from most first meter course live h =
    subst (λ (l : List KeptData). HasCome n a all old b past from most first meter
    (record course { span = record course.span { moves = l } }) live) (sym (none_followed course old.moves)) h

pub come_back : (n : ℕ) (a : Plan) (all : List Move) (old : RunData) (b : Plan) (past : List Move) (from most first meter : ℕ)
    (course : Course) (live : LiveData) (at : ℕ)
    → HasCome n a all old b past from most first meter (followed_to course old.moves at) live → at ≡ course.at
    → HasCome n a all old b past from most first meter course live
come_back n a all old b past from most first meter course live at h same =
    subst (λ (l : List KeptData). HasCome n a all old b past from most first meter
    (record course { span = record course.span { moves = l } }) live) (none_followed course old.moves)
    (subst (λ k. HasCome n a all old b past from most first meter (followed_to course old.moves k) live) same h)

-- how many the span has then
pub followed_count : (course : Course) (moves : List KeptData) (at : ℕ) → course.at ≤ at → at ≤ length moves
    → length (followed_to course moves at).span.moves ≡ length course.span.moves + (at - course.at)
followed_count course moves at le within =
    let long = length-drop course.at moves in
    length-append course.span.moves (take (at - course.at) (drop course.at moves))
    ∙ ap (λ k. length course.span.moves + k) (length-take-le (at - course.at) (drop course.at moves) (omega arith))

-- none is left
pub none_left_through : (n : ℕ) (a : Plan) (all : List Move) (old : RunData) (b : Plan) (past : List Move) (from most first meter : ℕ)
    (course : Course) (live : LiveData) (own : Option (ℕ × Due)) (d : KeptData)
    → HasCome n a all old b past from most first meter course live → own ≡ None → IsOwnNext b live old.to own
    → ((k : KeptData) → course.at < length old.moves
    → MatchOption own ⊥ (λ r. ComesAfter (slice_index_or old.moves course.at k) r.0 r.1))
    → IsThrough n a all old b past from most first meter course live
none_left_through n a all old b past from most first meter course live own d h is own_next after =
    let late : IsLate b live old.to = subst (IsOwnNext b live old.to) is own_next in
    let over : length old.moves ≤ course.at =
    ⊎_elim
    (λ (lt : course.at < length old.moves).
    absurd (subst (λ (o : Option (ℕ × Due)). MatchOption o ⊥ (λ r. ComesAfter (slice_index_or old.moves course.at d) r.0 r.1)) is
    (after d lt)))
    (λ (le : length old.moves ≤ course.at). le)
    (cases_lt course.at (length old.moves)) in
    all_through n a all old b past from most first meter course live h over late d

-- The beginning and the end of a span.

abbrev no_place : Option Place
no_place = None

all_none : (n p : ℕ) → get_or (replicate n no_place) p None ≡ None
all_none zero p = refl
all_none (suc n) zero = refl
all_none (suc n) (suc p) = all_none n p

-- eight ports of which none stands at a place
pub no_places : (p : ℕ) → get_or (replicate 8 no_place) p None ≡ None
no_places p = all_none 8 p

pub come_first : (n : ℕ) (a : Plan) (all : List Move) (old : RunData) (b : Plan) (past : List Move) (from meter : ℕ)
    (alike : List Bool) (share same : Bool) (places : List (Option Place)) (span : RunData) (live on : LiveData)
    → CanFollow n a all old b past from alike share live → (IsTrue same → HoldAlike a b from old.to (before from all) past)
    → StandsBut b past alike live on → length alike ≡ 8 → length places ≡ 8
    → ((p : ℕ) → slice_index_or places p None ≡ None) → span.first ≡ live.ports → span.moves ≡ [] → meter ≡ raised meter 0
    → HasCome n a all old b past from (steps_left b live) meter meter
    (record { at = 0; from = 0; same_holds = same; away = alike; places = places; span = span }) on
come_first n a all old b past from meter alike share same places span live on h held but room room_too none first moves spent =
    let no_more : past ++ map move_of span.moves ≡ past = ap (λ (l : List KeptData). past ++ map move_of l) moves ∙ append-nil past in
    record {
      beside = h.beside;
      whole = live;
      but = subst (λ (l : List Move). StandsBut b l alike live on) (sym no_more) but;
      within = omega arith;
      alike = λ p lt away.
          subst (λ (l : List Move). PortIsAlike a b (before from all ++ []) l p old.to) (sym no_more)
          (subst (λ (l : List Move). PortIsAlike a b l past p old.to) (sym (append-nil (before from all)))
          (begins_alike n a all old b past from alike share live p h lt away));
      held = λ yes.
          subst (λ (l : List Move). HoldAlike a b from old.to (before from all ++ []) l) (sym no_more)
          (subst (λ (l : List Move). HoldAlike a b from old.to l past) (sym (append-nil (before from all))) (held yes));
      room = (room, room_too);
      placed = λ p lt here. subst (λ (v : Option Place). IsKnown old.first old.moves p v (port_at on p)) (sym (none p)) tt;
      own = subst (All (IsOwn b)) (sym moves) (All-nil (IsOwn b));
      begun = begins_with_live n b past live span h.beside.is_plan_too h.stands first;
      earlier = subst (λ (l : List KeptData). All (IsEarlier old.to) (map move_of l)) (sym moves) (All-nil (IsEarlier old.to));
      later = subst (λ (l : List KeptData). All (IsLater from) (map move_of l)) (sym moves) (All-nil (IsLater from));
      few = (let e = ap length moves in omega arith);
      cost = λ olds own those. subst (λ (l : List KeptData). Costs a (map move_of olds) b (map move_of l) meter meter) (sym moves)
          (0, refl, spent);
    }

-- the old span leaves the ports that have followed as the new one does
pub followed_left : (n : ℕ) (a : Plan) (all : List Move) (old : RunData) (b : Plan) (past : List Move) (from most first meter : ℕ)
    (course : Course) (live : LiveData) (p : ℕ) → (t : IsThrough n a all old b past from most first meter course live) → p < n
    → IsAway course.away p → left_by old.first old.moves p ≡ port_at t.come.whole p
followed_left n a all old b past from most first meter course live p t lt away =
    let h = t.come in
    let mid : List Move = map move_of old.moves in
    let others : List Move = past ++ map move_of course.span.moves in
    let front : List Move = before from all in
    let long = length-map old.moves move_of in
    let over = t.over in
    let known : p < count b = omega (arith, h.beside.is_plan_too.settings_count) in
    let whole_mid : take course.at mid ≡ mid = take_all course.at mid (omega arith) in
    let alike : PortIsAlike a b (front ++ mid) others p old.to =
    subst (λ (l : List Move). PortIsAlike a b (front ++ l) others p old.to) whole_mid (h.alike p lt away) in
    let settings = alike.settings in
    let state = alike.records in
    let same : port_after a (front ++ mid) p ≡ port_after b others p = λ i. record { settings = settings i; port_record = state i } in
    left_after n a front old p h.beside.begun h.beside.own lt ∙ same ∙ sym (h.but.stands.ports_are p known)

-- the ports stand where the run is
pub through_span : (n : ℕ) (a : Plan) (all : List Move) (old : RunData) (b : Plan) (past : List Move) (from most first meter : ℕ)
    (course : Course) (live : LiveData) (span : RunData) → IsThrough n a all old b past from most first meter course live
    → span ≡ record course.span { to = old.to } → IsNextSpan n b past from span
through_span n a all old b past from most first meter course live span t is =
    let h = t.come in
    subst (IsNextSpan n b past from) (sym is) (record {
      rising = h.beside.rising;
      begun = begins_same n b past course.span (record course.span { to = old.to }) refl h.begun;
      own = h.own;
      later = h.later;
      up = t.up;
    })

-- those that are known to stand as the old span leaves them do
pub known_through : (n : ℕ) (a : Plan) (all : List Move) (old : RunData) (b : Plan) (past : List Move) (from most first meter : ℕ)
    (course : Course) (live then : LiveData) (marks : List Bool)
    → IsThrough n a all old b past from most first meter course live
    → StandsAfter b (past ++ map move_of course.span.moves) then
    → ((p : ℕ) → p < 8 → slice_index_or marks p false ≡ true
    → IsAway course.away p ⊎ ((x : PortData) → IsKnown old.first old.moves p (slice_index_or course.places p None) x
    → x ≡ left_by old.first old.moves p))
    → StandAs n marks then (left_by old.first old.moves)
known_through n a all old b past from most first meter course live then marks t stands told = λ p lt marked.
    let h = t.come in
    let few = h.beside.is_plan_too.few_ports in
    let count_is = h.beside.is_plan_too.settings_count in
    let known : p < count b = omega arith in
    let at_whole : port_at then p ≡ port_at h.whole p = stands.ports_are p known ∙ sym (h.but.stands.ports_are p known) in
    ⊎_elim
    (λ (away : slice_index_or course.away p false ≡ true).
    at_whole ∙ sym (followed_left n a all old b past from most first meter course live p t lt away))
    (λ (here : slice_index_or course.away p false ≡ false).
    ⊎_elim
    (λ (away : IsAway course.away p). at_whole ∙ sym (followed_left n a all old b past from most first meter course live p t lt away))
    (λ (known_at : (x : PortData) → IsKnown old.first old.moves p (slice_index_or course.places p None) x
    → x ≡ left_by old.first old.moves p).
    at_whole ∙ sym (h.but.ports_are p known here) ∙ known_at (port_at live p) (h.placed p lt here))
    (told p (omega arith) marked))
    (cases_Bool (slice_index_or course.away p false))

-- A run that comes to a span with ports of its own.

pub go_beside : (n : ℕ) (a : Plan) (old_spans : List RunData) (old : RunData) (b : Plan) (spans : List RunData) (from : ℕ)
    (common : Common) (alike : List Bool) (share : Bool) (live : LiveData) → ComesApart n a old_spans old b spans from common alike live
    → AgreeInScripts a b from old.to → (IsTrue share → ShareAlike a b from old.to)
    → CanFollow n a (moves_of old_spans) old b (moves_of spans) from alike share live
go_beside n a old_spans old b spans from common alike share live h scripts shares =
    let all : List Move = moves_of old_spans in
    let w = in_span n a old_spans h.place old h.kept h.there in
    let needed = h.kept.reach.needed h.place (slice_get_within old_spans h.place old h.there) in
    let e = h.from_is in
    let rising = w.rising in
    record {
      beside = record {
        is_plan = h.kept.is_plan;
        is_plan_too = h.far.is_plan;
        run = h.kept.safe.run;
        is_between = subst (λ t. before old.to all ≡ before t all ++ map move_of old.moves) (sym e) w.is_next;
        own = w.own;
        begun = subst (λ t. BeginsAfter n a (before t all) old) (sym e) w.begun;
        scripts = scripts;
        rising = omega arith;
        soon = omega arith;
        soon_too = h.soon;
        up = h.far.up;
      };
      known = h.known;
      stands = h.stands;
      shares = shares;
    }

-- the ports of the span's moves are numbered from 1 to n
pub numbered_in : (n : ℕ) (a : Plan) (all : List Move) (old : RunData) (b : Plan) (past : List Move) (from : ℕ)
    → GoBeside n a all old b past from → AreNumbered n old.moves
numbered_in n a all old b past from h = λ i k lt.
    let mid : List Move = map move_of old.moves in
    let w = followed_by n a all old b past from h in
    let long = length-map old.moves move_of in
    let goes = goes_at a b (before from all) mid w.0 old.to i (move_of k) w.1 (omega arith) in
    let known = subst (λ (m : Move). m.port < count a) (mid_at old.moves i k) goes.known in
    let one = (h.own i k lt).from_one in
    let counts = h.is_plan.settings_count in
    (one, (omega arith))

-- with the ports where they stand
pub apart_at : (n : ℕ) (a : Plan) (old_spans : List RunData) (old : RunData) (b : Plan) (spans : List RunData) (from : ℕ)
    (common : Common) (standing : Standing n) (alike : List Bool) (live : LiveData)
    → ComesTo n a old_spans old b spans from common standing → StandsAfter b (moves_of spans) live → BeginsWithMarked n old live alike
    → ComesApart n a old_spans old b spans from common alike live
apart_at n a old_spans old b spans from common standing alike live h stands known = record {
  place = h.place;
  kept = h.kept;
  there = h.there;
  from_is = h.at_is;
  far = h.far;
  soon = h.soon;
  stands = stands;
  known = known;
  in_common = h.in_common;
}
