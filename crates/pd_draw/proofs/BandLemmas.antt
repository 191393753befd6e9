-- The bands of a lane are those of its port's phases.
use Rattle.std.proofs.Common.{◌≡◌, ◌≢◌, ◌⊎◌, ℕ, zero, suc, ◌+◌, ◌-◌, ◌*◌, ◌/◌, ◌<◌, ◌≤◌, Bool, true, false, max, min, not, List, [], ◌∷◌}
use Rattle.std.proofs.Common.{◌++◌, length, get_or, take, Option, refl, sym, ap, ◌∙◌, subst, inl, inr, ⊎_elim, arith, append_assoc}
use Rattle.std.proofs.Common.{length-append}
use Rattle.std.specs.Prelude.{◌==◌, ◌||◌, All}
use Rattle.std.proofs.lemmas.Bool.{cases_eq, cases_lt, eq-eqb}
use Rattle.std.proofs.lemmas.List.{append-nil, get_or-append-add, get_or-replicate, get_or_append_left, length-replicate, take-append-le}
use Rattle.std.proofs.lemmas.List.{take_all}
use Rattle.std.proofs.Math.Nat.{zero-div, zero-mul}
use Rattle.std.proofs.Math.Seq.{get_or-append_seam, take-append_seam, take-length}
use Rattle.pd_line.specs.Record.{nothing_attached}
use Rattle.pd_port.specs.Port.{detached}
use Rattle.pd_scenario.specs.Plan.{Plan, IsPlan, count, settings_of}
use Rattle.pd_run.specs.Laws.{EndsBetween}
use Rattle.pd_run.specs.Order.{EachAfter}
use Rattle.pd_run.specs.UpTo.{before}
use Rattle.pd_run.specs.Run.{GoesOn, IsInOrder, Move, NoneLater, Run, Standing, after as left_by, standing}
use Rattle.pd_run.proofs.Cut.{All-change, All-head, All-tail, EachAfter-back, EachAfter-front, cut_from}
use Rattle.pd_run.proofs.Moves.{in_order-member, standing-other, standing-same}
use Rattle.pd_report.proofs.MarginLemmas.{at-due}
use Rattle.pd_show.specs.Choices.{is_of_port}
use Rattle.pd_show.specs.Seen.{all_seen, glance}
use Rattle.pd_show.proofs.ShowLemmas.{watched}
use Rattle.pd_chart.specs.declared.frame.Frame.{Frame}
use Rattle.pd_chart.specs.Scale.{x_of}
use Rattle.pd_draw.specs.declared.lane.Lane.{Lane}
use Rattle.pd_draw.specs.declared.phase.Phase.{Phase}
use Rattle.pd_draw.specs.declared.place.Place.{Place}
use Rattle.pd_draw.specs.Bands.{ends_band, is_narrow, lane_in, phase_number, phase_of}
use Rattle.pd_draw.specs.Lanes.{drawn_of, end_of, lane_after, lane_at, lane_start, no_lane}
use Rattle.pd_draw.specs.Phases.{BandsAreTrue, IsTrueBand, PhasesStand, Turns, band, lane_then, phase_after}
use Rattle.pd_draw.specs.Phases.{place_then, seen_then}
use Rattle.pd_draw.proofs.PhaseLemmas.{TurnsSo, contract_phase, lane_here, lane_other, lanes_count, lanes_push, lanes_unplaced, move_keeps}
use Rattle.pd_draw.proofs.PhaseLemmas.{one_phase, seen_after, seen_at, seen_port, turns_so}

-- ---- the order of moves

none_later-at : (t p : ℕ) (past : List Move) (k : ℕ) (d : Move) → NoneLater t p past → k < length past → (get_or past k d).due.time ≤ t
none_later-at t p [] k d h lt = absurd (omega arith)
none_later-at t p (m ∷ ms) zero d h lt = h.0.by_time
none_later-at t p (m ∷ ms) (suc k) d h lt = none_later-at t p ms k d h.1 (omega arith)

-- those that follow a move are no earlier
follow : (past more : List Move) (x : Move) (ms : List Move) (k : ℕ) (d : Move) → EachAfter IsInOrder ((past ++ x ∷ []) ++ more) ms
    → k < length ms → x.due.time ≤ (get_or ms k d).due.time
follow past more x [] k d o lt = absurd (omega arith)
follow past more x (m ∷ ms) zero d o lt = (in_order-member past more x m o.0).by_time
follow past more x (m ∷ ms) (suc k) d o lt =
    follow past (more ++ m ∷ []) x ms k d
    (subst (λ (l : List Move). EachAfter IsInOrder l ms) (append_assoc (past ++ x ∷ []) more (m ∷ [])) o.1) (omega arith)

from_here : (past : List Move) (x : Move) (ms : List Move) (k : ℕ) (d : Move) → EachAfter IsInOrder past (x ∷ ms) → k < length (x ∷ ms)
    → x.due.time ≤ (get_or (x ∷ ms) k d).due.time
from_here past x ms zero d o lt = omega arith
from_here past x ms (suc k) d o lt =
    follow past [] x ms k d (subst (λ (l : List Move). EachAfter IsInOrder l ms) (sym (append-nil (past ++ x ∷ []))) o.1) (omega arith)

-- some move of a list that has any
some_move : (xs : List Move) (k : ℕ) → k < length xs → Move
some_move [] k lt = absurd (omega arith)
some_move (x ∷ xs) k lt = x

-- ---- a lane's phase

-- What is known of the phase of a lane after moves: the port has been in it since some of them, the last of which is at the time when it
-- goes into the phase; and the phase that is drawn begins less than a pixel before.
record Kept (plan : Plan) (f : Frame) (past : List Move) (p : ℕ) (phase : Phase) (since : ℕ) : Type 0 where
  first : ℕ
  within : first ≤ length past
  holds : (i : ℕ) → first ≤ i → i ≤ length past → phase_after plan (take i past) p ≡ phase
  entered : ℕ
  early : (k : ℕ) (d : Move) → k < first → (get_or past k d).due.time ≤ entered
  enters : (entered ≡ f.from) ⊎ ((old : Phase) × Turns plan past p entered old phase)
  begins : (since ≡ f.from) ⊎ ((old : Phase) × (new : Phase) × Turns plan past p since old new)
  not_before : since ≤ entered
  near : x_of f entered < x_of f since + 10

phase_now : (plan : Plan) (f : Frame) (past : List Move) (p : ℕ) (phase : Phase) (since : ℕ) → Kept plan f past p phase since
    → phase_after plan past p ≡ phase
phase_now plan f past p phase since k =
    ap (λ (l : List Move). phase_after plan l p) (sym (take-length past)) ∙ k.holds (length past) k.within (omega arith)

module _ (plan : Plan) (f : Frame) (past : List Move) (p : ℕ) where
  turned_before : (at : ℕ) (old new : Phase) (rest : List Move) → Turns plan past p at old new → Turns plan (past ++ rest) p at old new
  turned_before at old new rest t = record {
    earlier = t.earlier;
    move = t.move;
    later = t.later ++ rest;
    moves_are = ap (λ (l : List Move). l ++ rest) t.moves_are ∙ append_assoc t.earlier (t.move ∷ t.later) rest;
    of_port = t.of_port;
    on_time = t.on_time;
    left = t.left;
    reached = t.reached;
    is_another = t.is_another;
  }

  enters_before : (at : ℕ) (new : Phase) (rest : List Move) → (at ≡ f.from) ⊎ ((old : Phase) × Turns plan past p at old new)
      → (at ≡ f.from) ⊎ ((old : Phase) × Turns plan (past ++ rest) p at old new)
  enters_before at new rest (inl e) = inl e
  enters_before at new rest (inr (old, t)) = inr (old, turned_before at old new rest t)

  begins_before : (at : ℕ) (rest : List Move) → (at ≡ f.from) ⊎ ((old : Phase) × (new : Phase) × Turns plan past p at old new)
      → (at ≡ f.from) ⊎ ((old : Phase) × (new : Phase) × Turns plan (past ++ rest) p at old new)
  begins_before at rest (inl e) = inl e
  begins_before at rest (inr (old, new, t)) = inr (old, new, turned_before at old new rest t)

module _ (plan : Plan) (f : Frame) (past : List Move) (m : Move) (p : ℕ) where
  early_more : (k n : ℕ) (d : Move) → k < length past → (get_or past k d).due.time ≤ n → (get_or (past ++ m ∷ []) k d).due.time ≤ n
  early_more k n d lt h = let e = ap (λ (x : Move). x.due.time) (get_or_append_left past (m ∷ []) d k lt) in omega arith

  -- the move leads into no other phase
  stays : (phase : Phase) (since : ℕ) → Kept plan f past p phase since → phase_after plan (past ++ m ∷ []) p ≡ phase
      → Kept plan f (past ++ m ∷ []) p phase since
  stays phase since k e =
      let more = length-append past (m ∷ []) in
      let within = k.within in
      record {
        first = k.first;
        within = omega arith;
        holds = λ i low high.
            elim (cases_lt (length past) i) [
              | inl last ↦ ap (λ (l : List Move). phase_after plan l p) (take_all i (past ++ m ∷ []) (omega arith)) ∙ e
              | inr before ↦ ap (λ (l : List Move). phase_after plan l p) (take-append-le i past (m ∷ []) before) ∙ k.holds i low before
            ];
        entered = k.entered;
        early = λ i d lt. early_more i k.entered d (omega arith) (k.early i d lt);
        enters = enters_before plan f past p k.entered phase (m ∷ []) k.enters;
        begins = begins_before plan f past p since (m ∷ []) k.begins;
        not_before = k.not_before;
        near = k.near;
      }

  -- the move leads into another
  turns_here : (old new : Phase) → m.port ≡ p → phase_after plan past p ≡ old → phase_after plan (past ++ m ∷ []) p ≡ new
      → phase_number old ≢ phase_number new → Turns plan (past ++ m ∷ []) p m.due.time old new
  turns_here old new port left reached other = record {
    earlier = past;
    move = m;
    later = [];
    moves_are = refl;
    of_port = port;
    on_time = refl;
    left = left;
    reached = reached;
    is_another = other;
  }

  all_early : (k : ℕ) (d : Move) → NoneLater m.due.time m.port past → k < length (past ++ m ∷ [])
      → (get_or (past ++ m ∷ []) k d).due.time ≤ m.due.time
  all_early k d order lt =
      elim (cases_lt k (length past)) [
        | inl before ↦ early_more k m.due.time d before (none_later-at m.due.time m.port past k d order before)
        | inr last ↦
            let at_end : k ≡ length past = omega (arith, length-append past (m ∷ [])) in
            let e = ap (λ i. (get_or (past ++ m ∷ []) i d).due.time) at_end in
            let is = ap (λ (x : Move). x.due.time) (get_or-append_seam past m [] d) in
            omega arith
      ]

  last_holds : (new : Phase) → phase_after plan (past ++ m ∷ []) p ≡ new → (i : ℕ) → length (past ++ m ∷ []) ≤ i
      → i ≤ length (past ++ m ∷ []) → phase_after plan (take i (past ++ m ∷ [])) p ≡ new
  last_holds new e i low high = ap (λ (l : List Move). phase_after plan l p) (take_all i (past ++ m ∷ []) low) ∙ e

  turns_wide : (old new : Phase) → m.port ≡ p → phase_after plan past p ≡ old → phase_after plan (past ++ m ∷ []) p ≡ new
      → phase_number old ≢ phase_number new → NoneLater m.due.time m.port past → Kept plan f (past ++ m ∷ []) p new m.due.time
  turns_wide old new port left reached other order =
      let turns = turns_here old new port left reached other in
      record {
        first = length (past ++ m ∷ []);
        within = omega arith;
        holds = last_holds new reached;
        entered = m.due.time;
        early = λ k d lt. all_early k d order lt;
        enters = inr (old, turns);
        begins = inr (old, new, turns);
        not_before = omega arith;
        near = omega arith;
      }

  -- the phase that is drawn has begun before the window, or no later than the move
  entered_by : (at : ℕ) (new : Phase) → NoneLater m.due.time m.port past → (at ≡ f.from) ⊎ ((old : Phase) × Turns plan past p at old new)
      → (at ≡ f.from) ⊎ (at ≤ m.due.time)
  entered_by at new order (inl e) = inl e
  entered_by at new order (inr (old, t)) =
      let count = ap length t.moves_are ∙ length-append t.earlier (t.move ∷ t.later) in
      let lt : length t.earlier < length past = omega arith in
      let is = ap (λ (l : List Move). get_or l (length t.earlier) t.move) t.moves_are
      ∙ get_or-append_seam t.earlier t.move t.later t.move in
      let time = ap (λ (x : Move). x.due.time) is in
      let on_time = t.on_time in
      let early = none_later-at m.due.time m.port past (length t.earlier) t.move order lt in
      inr (omega arith)

  turns_near : (old new : Phase) (since : ℕ) → Kept plan f past p old since → m.port ≡ p → phase_after plan (past ++ m ∷ []) p ≡ new
      → phase_number old ≢ phase_number new → NoneLater m.due.time m.port past → x_of f m.due.time < x_of f since + 10
      → x_of f f.from < x_of f since + 10 → Kept plan f (past ++ m ∷ []) p new since
  turns_near old new since k port reached other order near left =
      let before = k.not_before in
      elim (cases_lt m.due.time f.from) [
        | inl outside ↦ record {
          first = length (past ++ m ∷ []);
          within = omega arith;
          holds = last_holds new reached;
          entered = f.from;
          early = λ i d lt. let e = all_early i d order lt in omega arith;
          enters = inl refl;
          begins = begins_before plan f past p since (m ∷ []) k.begins;
          not_before =
              ⊎_elim (λ (e : k.entered ≡ f.from). omega arith) (λ (e : k.entered ≤ m.due.time). omega arith)
              (entered_by k.entered old order k.enters);
          near = left;
        }
        | inr inside ↦ record {
          first = length (past ++ m ∷ []);
          within = omega arith;
          holds = last_holds new reached;
          entered = m.due.time;
          early = λ i d lt. all_early i d order lt;
          enters = inr (old, turns_here old new port (phase_now plan f past p old since k) reached other);
          begins = begins_before plan f past p since (m ∷ []) k.begins;
          not_before =
              ⊎_elim (λ (e : k.entered ≡ f.from). omega arith) (λ (e : k.entered ≤ m.due.time). omega arith)
              (entered_by k.entered old order k.enters);
          near = near;
        }
      ]

-- ---- a band of it

-- at the end of each instant from then to the first of the moves that follow the port is in the phase
stands_then : (plan : Plan) (f : Frame) (moves past tail done rest : List Move) (p : ℕ) (phase : Phase) (since to t : ℕ)
    → moves ≡ past ++ tail → ((k : ℕ) (d : Move) → k < length tail → to ≤ (get_or tail k d).due.time)
    → moves ≡ done ++ rest → EndsBetween t done rest → (k : Kept plan f past p phase since) → k.entered ≤ t → t < to
    → phase_after plan done p ≡ phase
stands_then plan f moves past tail done rest p phase since to t whole late parts between k after before =
    let j = length done in
    let within = k.within in
    let first_count = ap length whole ∙ length-append past tail in
    let second_count = ap length parts ∙ length-append done rest in
    let not_over : j ≤ length past =
    elim (cases_lt (length past) j) [
      | inl over ↦
          let some : 0 < length tail = omega arith in
          let d = some_move tail 0 some in
          let here : length past + 0 ≡ length past = omega arith in
          let is : get_or done (length past) d ≡ get_or tail 0 d =
          sym (get_or_append_left done rest d (length past) over) ∙ ap (λ (l : List Move). get_or l (length past) d) (sym parts ∙ whole)
          ∙ ap (λ i. get_or (past ++ tail) i d) (sym here) ∙ get_or-append-add past tail 0 d in
          let time = ap (λ (x : Move). x.due.time) is in
          let soon : (get_or done (length past) d).due.time ≤ t = between.up_to (length past) d over in
          let not_soon : to ≤ (get_or tail 0 d).due.time = late 0 d some in
          absurd (omega arith)
      | inr in_time ↦ in_time
    ] in
    let not_under : k.first ≤ j =
    elim (cases_lt j k.first) [
      | inl under ↦
          let known : j < length past = omega arith in
          let some : 0 < length rest = omega arith in
          let d = some_move past j known in
          let here : j + 0 ≡ j = omega arith in
          let is : get_or past j d ≡ get_or rest 0 d =
          sym (get_or_append_left past tail d j known) ∙ ap (λ (l : List Move). get_or l j d) (sym whole ∙ parts)
          ∙ ap (λ i. get_or (done ++ rest) i d) (sym here) ∙ get_or-append-add done rest 0 d in
          let time = ap (λ (x : Move). x.due.time) is in
          let early : (get_or past j d).due.time ≤ k.entered = k.early j d under in
          let later : t < (get_or rest 0 d).due.time = between.later 0 d some in
          absurd (omega arith)
      | inr in_time ↦ in_time
    ] in
    ap (λ (l : List Move). phase_after plan l p)
    (sym (take-append_seam done rest) ∙ ap (λ (l : List Move). take j l) (sym parts ∙ whole) ∙ take-append-le j past tail not_over)
    ∙ k.holds j not_under not_over

true_band : (plan : Plan) (f : Frame) (moves past tail : List Move) (p : ℕ) (phase : Phase) (since to : ℕ) → moves ≡ past ++ tail
    → Kept plan f past p phase since → ((k : ℕ) (d : Move) → k < length tail → to ≤ (get_or tail k d).due.time)
    → (to ≡ f.to) ⊎ ((new : Phase) × Turns plan moves p to phase new)
    → IsTrueBand plan moves f p (record { phase = phase; from = since; to = to })
true_band plan f moves past tail p phase since to whole k late ends = record {
  entered = k.entered;
  enters =
      subst (λ (l : List Move). (k.entered ≡ f.from) ⊎ ((old : Phase) × Turns plan l p k.entered old phase)) (sym whole)
      (enters_before plan f past p k.entered phase tail k.enters);
  begins =
      subst (λ (l : List Move). (since ≡ f.from) ⊎ ((old : Phase) × (new : Phase) × Turns plan l p since old new)) (sym whole)
      (begins_before plan f past p since tail k.begins);
  not_before = k.not_before;
  near = k.near;
  stands = λ done rest t parts between after before.
      stands_then plan f moves past tail done rest p phase since to t whole late parts between k after before;
  ends = ends;
}

-- ---- along a run

-- the lane of a port is kept so
abbrev IsKept : Plan → Frame → Option ℕ → List Move → ℕ → Type 0
IsKept plan f chosen past p =
    Kept plan f past p (lane_then plan f chosen past p).phase (lane_then plan f chosen past p).since

abbrev lanes_then : Plan → Frame → Option ℕ → List Move → List Lane
lanes_then plan f chosen past = (drawn_of f chosen (all_seen plan past)).lanes

-- the left end of the window isn't right of anything
no_part : (from to width whole : ℕ) → (min from to - from) * width / whole ≡ 0
no_part from to width whole =
    let none : min from to - from ≡ 0 = omega arith in
    ap (λ k. k * width / whole) none ∙ ap (λ k. k / whole) (zero-mul width) ∙ zero-div whole

left_end : (f : Frame) (at : ℕ) → x_of f f.from < x_of f at + 10
unfolding x_of
left_end f at =
    let none = no_part f.from f.to f.width (max 1 (f.to - f.from)) in
    omega (arith, none)

starts : (plan : Plan) (f : Frame) (chosen : Option ℕ) (p : ℕ) → p < 8 → IsKept plan f chosen [] p
unfolding detached nothing_attached
starts plan f chosen p few =
    let here : lane_then plan f chosen [] p ≡ lane_start f.from =
    get_or-replicate 8 ((p + 1) - 1) (lane_start f.from) no_lane (omega arith) in
    let of_lane : Lane → Type 0 = λ (l : Lane). Kept plan f [] p l.phase l.since in
    subst of_lane (sym here) (record {
      first = 0;
      within = omega arith;
      holds = λ i low high. ap (λ (l : List Move). phase_after plan l p) (take_all i [] (omega arith));
      entered = f.from;
      early = λ k d lt. absurd (omega arith);
      enters = inl refl;
      begins = inl refl;
      not_before = omega arith;
      near = omega arith;
    })

lanes_kept : (plan : Plan) (f : Frame) (chosen : Option ℕ) (past : List Move) (m : Move)
    → length (lanes_then plan f chosen (past ++ m ∷ [])) ≡ length (lanes_then plan f chosen past)
lanes_kept plan f chosen past m =
    ap length (lanes_push plan f chosen past m)
    ∙ lanes_count f chosen (drawn_of f chosen (all_seen plan past)).before (lanes_then plan f chosen past) (seen_then plan past m)

module _ (plan : Plan) (f : Frame) (chosen : Option ℕ) (past : List Move) (m : Move) (p : ℕ) where
  abbrev lane : Lane
  lane = lane_then plan f chosen past p

  abbrev place : Place
  place = place_then plan f chosen past m

  abbrev new_phase : Phase
  new_phase = phase_of (seen_then plan past m).after

  of_another : m.port ≢ p → IsKept plan f chosen past p → IsKept plan f chosen (past ++ m ∷ []) p
  of_another other k =
      let port = seen_port plan (watched plan past) m in
      let same : lane_then plan f chosen (past ++ m ∷ []) p ≡ lane =
      ap (λ (ls : List Lane). lane_at ls (p + 1)) (lanes_push plan f chosen past m)
      ∙ lane_other f chosen (drawn_of f chosen (all_seen plan past)).before (lanes_then plan f chosen past) (seen_then plan past m) p
      (λ e. other (omega arith)) in
      let phase : phase_after plan (past ++ m ∷ []) p ≡ phase_after plan past p =
      ap (λ (s : Standing). phase_of (glance (settings_of plan p) s.state)) (standing-other plan past m p other) in
      subst (λ (l : Lane). Kept plan f (past ++ m ∷ []) p l.phase l.since) (sym same)
      (stays plan f past m p lane.phase lane.since k (phase ∙ phase_now plan f past p lane.phase lane.since k))

  reached_is : m.port ≡ p → phase_after plan (past ++ m ∷ []) p ≡ new_phase
  reached_is port =
      ap (λ (s : Standing). phase_of (glance (settings_of plan p) s.state)) (standing-same plan past m p port)
      ∙ ap (λ k. phase_of (glance (settings_of plan k) (left_by plan m))) (sym port)
      ∙ ap phase_of (sym (seen_after plan (watched plan past) m))

  of_its_own : m.port ≡ p → GoesOn plan past m → NoneLater m.due.time m.port past → p < length (lanes_then plan f chosen past)
      → m.due.time ≤ f.to → is_of_port chosen (p + 1) ≡ true → IsKept plan f chosen past p → IsKept plan f chosen (past ++ m ∷ []) p
  of_its_own port goes order known soon shown k =
      let at : place.at ≡ m.due.time = seen_at plan (watched plan past) m ∙ at-due plan past m goes in
      let seen_on : (seen_then plan past m).port ≡ p + 1 = seen_port plan (watched plan past) m ∙ ap (λ q. q + 1) port in
      let here : lane_then plan f chosen (past ++ m ∷ []) p ≡ lane_after place lane (seen_then plan past m) =
      ap (λ (ls : List Lane). lane_at ls (p + 1)) (lanes_push plan f chosen past m)
      ∙ lane_here f chosen (drawn_of f chosen (all_seen plan past)).before (lanes_then plan f chosen past) (seen_then plan past m) p
      seen_on known (omega arith) shown in
      let marked = move_keeps place lane (seen_then plan past m) in
      let turned : Lane = lane_in place lane new_phase in
      let phase_is : (lane_then plan f chosen (past ++ m ∷ []) p).phase ≡ turned.phase = ap (λ (l : Lane). l.phase) here ∙ marked.0 in
      let since_is : (lane_then plan f chosen (past ++ m ∷ []) p).since ≡ turned.since = ap (λ (l : Lane). l.since) here ∙ marked.1 in
      let kept : Kept plan f (past ++ m ∷ []) p turned.phase turned.since = by_turn (turns_so place lane new_phase) at in
      subst (λ n. Kept plan f (past ++ m ∷ []) p (lane_then plan f chosen (past ++ m ∷ []) p).phase n) (sym since_is)
      (subst (λ (a : Phase). Kept plan f (past ++ m ∷ []) p a turned.since) (sym phase_is) kept)
    where
      of_lane : Lane → Type 0
      of_lane l = Kept plan f (past ++ m ∷ []) p l.phase l.since

      by_turn : TurnsSo place lane new_phase → place.at ≡ m.due.time → of_lane (lane_in place lane new_phase)
      by_turn (inl (same, is)) at =
          subst of_lane (sym is)
          (stays plan f past m p lane.phase lane.since k (reached_is port ∙ sym (one_phase lane.phase new_phase same)))
      by_turn (inr (inl (other, near, is))) at =
          subst of_lane (sym is)
          (turns_near plan f past m p lane.phase new_phase lane.since k port (reached_is port) other order
          (subst (λ n. x_of f n < x_of f lane.since + 10) at near) (left_end f lane.since))
      by_turn (inr (inr (other, is))) at =
          subst of_lane (sym is)
          (subst (λ n. Kept plan f (past ++ m ∷ []) p new_phase n) (sym at)
          (turns_wide plan f past m p lane.phase new_phase port (phase_now plan f past p lane.phase lane.since k) (reached_is port)
          other order))

  one_more : GoesOn plan past m → NoneLater m.due.time m.port past → p < length (lanes_then plan f chosen past) → m.due.time ≤ f.to
      → is_of_port chosen (p + 1) ≡ true → IsKept plan f chosen past p → IsKept plan f chosen (past ++ m ∷ []) p
  one_more goes order known soon shown k =
      ⊎_elim (λ (port : m.port ≡ p). of_its_own port goes order known soon shown k) (λ (other : m.port ≢ p). of_another other k)
      (cases_eq m.port p)

  -- where a band ends, the move leads into another phase
  ends_there : (b c : Bool) → not (b || c) ≡ true → b ≡ false
  ends_there true c h = sym h
  ends_there false c h = refl

  another_phase : ends_band place lane new_phase ≡ true → phase_number lane.phase ≢ phase_number new_phase
  another_phase h same =
      let is : false ≡ true =
      sym (ends_there (phase_number lane.phase == phase_number new_phase) (is_narrow place lane) h)
      ∙ eq-eqb (phase_number lane.phase) (phase_number new_phase) same in
      cc

kept_along : (plan : Plan) (f : Frame) (chosen : Option ℕ) (past ms : List Move) (p : ℕ) → EachAfter (GoesOn plan) past ms
    → EachAfter IsInOrder past ms → All (λ m. m.due.time ≤ f.to) ms → is_of_port chosen (p + 1) ≡ true
    → p < length (lanes_then plan f chosen past) → IsKept plan f chosen past p → IsKept plan f chosen (past ++ ms) p
kept_along plan f chosen past [] p goes order soon shown known k =
    subst (λ (l : List Move). IsKept plan f chosen l p) (sym (append-nil past)) k
kept_along plan f chosen past (m ∷ ms) p goes order soon shown known k =
    let count = lanes_kept plan f chosen past m in
    subst (λ (l : List Move). IsKept plan f chosen l p) (append_assoc past (m ∷ []) ms)
    (kept_along plan f chosen (past ++ m ∷ []) ms p goes.1 order.1 (All-tail (λ x. x.due.time ≤ f.to) m ms soon) shown (omega arith)
    (one_more plan f chosen past m p goes.0 order.0 known (All-head (λ x. x.due.time ≤ f.to) m ms soon) shown k))

-- the lanes of a port of a run, after moves up to the window's end
kept_in : (n : ℕ) (plan : Plan) (f : Frame) (chosen : Option ℕ) (past later : List Move) (p : ℕ) → IsPlan n plan
    → Run plan (past ++ later) → All (λ m. m.due.time ≤ f.to) past → p < count plan → is_of_port chosen (p + 1) ≡ true
    → IsKept plan f chosen past p
kept_in n plan f chosen past later p is run soon lt shown =
    let few = is.few_ports in
    let ports = is.settings_count in
    let count = length-replicate 8 (lane_start f.from) in
    kept_along plan f chosen [] past p (EachAfter-front (GoesOn plan) [] past later run.chained)
    (EachAfter-front IsInOrder [] past later run.ordered) soon shown (omega arith) (starts plan f chosen p (omega arith))

pub phases_stand : PhasesStand
phases_stand n plan past later f chosen p is run soon lt shown =
    let k = kept_in n plan f chosen past later p is run soon lt shown in
    let lane = lane_then plan f chosen past p in
    let is_of_port = sym (phase_now plan f past p lane.phase lane.since k) in
    let by_record = contract_phase (glance (settings_of plan p) (standing plan past p).state) in
    record {
      is_of_port = is_of_port;
      has_contract = (λ e. by_record.0 (sym is_of_port ∙ e), λ some. is_of_port ∙ by_record.1 some);
    }

-- moves after the window change no lane
unplaced : (plan : Plan) (f : Frame) (chosen : Option ℕ) (past ms : List Move) → EachAfter (GoesOn plan) past ms
    → All (λ m. f.to + 1 ≤ m.due.time) ms → lanes_then plan f chosen (past ++ ms) ≡ lanes_then plan f chosen past
unplaced plan f chosen past [] goes late = ap (lanes_then plan f chosen) (append-nil past)
unplaced plan f chosen past (m ∷ ms) goes late =
    let at : (seen_then plan past m).entry.at ≡ m.due.time = seen_at plan (watched plan past) m ∙ at-due plan past m goes.0 in
    let head : f.to + 1 ≤ m.due.time = All-head (λ x. f.to + 1 ≤ x.due.time) m ms late in
    ap (lanes_then plan f chosen) (sym (append_assoc past (m ∷ []) ms))
    ∙ unplaced plan f chosen (past ++ m ∷ []) ms goes.1 (All-tail (λ x. f.to + 1 ≤ x.due.time) m ms late)
    ∙ lanes_push plan f chosen past m
    ∙ lanes_unplaced f chosen (drawn_of f chosen (all_seen plan past)).before (lanes_then plan f chosen past) (seen_then plan past m)
    (omega arith)

-- the moves before one of a run that is in the window are, too
soon_before : (t p to : ℕ) (past : List Move) → NoneLater t p past → t ≤ to → All (λ m. m.due.time ≤ to) past
soon_before t p to past order soon k d lt = let h = none_later-at t p past k d order lt in omega arith

module _ (n : ℕ) (plan : Plan) (moves : List Move) (f : Frame) (chosen : Option ℕ) (p : ℕ) (is : IsPlan n plan) (run : Run plan moves)
    (lt : p < count plan) (shown : is_of_port chosen (p + 1) ≡ true) where
  ended : (past later : List Move) (m : Move) → moves ≡ past ++ m ∷ later → m.port ≡ p → m.due.time ≤ f.to
      → ends_band (place_then plan f chosen past m) (lane_then plan f chosen past p) (phase_of (seen_then plan past m).after) ≡ true
      → IsTrueBand plan moves f p (band (place_then plan f chosen past m) (lane_then plan f chosen past p))
  ended past later m whole port soon ends =
      let there : Run plan (past ++ m ∷ later) = subst (Run plan) whole run in
      let order = EachAfter-back IsInOrder [] past (m ∷ later) there.ordered in
      let goes = EachAfter-back (GoesOn plan) [] past (m ∷ later) there.chained in
      let at : (place_then plan f chosen past m).at ≡ m.due.time = seen_at plan (watched plan past) m ∙ at-due plan past m goes.0 in
      let lane = lane_then plan f chosen past p in
      let k =
      kept_in n plan f chosen past (m ∷ later) p is there (soon_before m.due.time m.port f.to past order.0 soon) lt shown in
      let turns : Turns plan (past ++ m ∷ []) p m.due.time lane.phase (phase_of (seen_then plan past m).after) =
      turns_here plan f past m p lane.phase (phase_of (seen_then plan past m).after) port
      (phase_now plan f past p lane.phase lane.since k) (reached_is plan f chosen past m p port)
      (another_phase plan f chosen past m p ends) in
      let in_all : Turns plan moves p m.due.time lane.phase (phase_of (seen_then plan past m).after) =
      subst (λ (l : List Move). Turns plan l p m.due.time lane.phase (phase_of (seen_then plan past m).after))
      (append_assoc past (m ∷ []) later ∙ sym whole)
      (turned_before plan f (past ++ m ∷ []) p m.due.time lane.phase (phase_of (seen_then plan past m).after) later turns) in
      subst (λ t. IsTrueBand plan moves f p (record { phase = lane.phase; from = lane.since; to = t })) (sym at)
      (true_band plan f moves past (m ∷ later) p lane.phase lane.since m.due.time whole k
      (λ i d less. from_here past m later i d order less) (inr (phase_of (seen_then plan past m).after, in_all)))

  last : IsTrueBand plan moves f p (band (end_of f (p + 1)) (lane_then plan f chosen moves p))
  last =
      let c = cut_from (f.to + 1) [] moves run.ordered in
      let past : List Move = before (f.to + 1) moves in
      let there : Run plan (past ++ c.rest) = subst (Run plan) c.whole run in
      let k =
      kept_in n plan f chosen past c.rest p is there
      (All-change (λ m. m.due.time < f.to + 1) (λ m. m.due.time ≤ f.to) past (λ m h. omega arith) c.earlier) lt shown in
      let lane = lane_then plan f chosen past p in
      let same : lane_then plan f chosen moves p ≡ lane =
      ap (λ (l : List Move). lane_then plan f chosen l p) c.whole
      ∙ ap (λ (ls : List Lane). lane_at ls (p + 1))
      (unplaced plan f chosen past c.rest (EachAfter-back (GoesOn plan) [] past c.rest there.chained) c.later) in
      subst (λ (l : Lane). IsTrueBand plan moves f p (record { phase = l.phase; from = l.since; to = f.to })) (sym same)
      (true_band plan f moves past c.rest p lane.phase lane.since f.to c.whole k
      (λ i d less. let h : f.to + 1 ≤ (get_or c.rest i d).due.time = c.later i d less in omega arith) (inl refl))

pub bands_are_true : BandsAreTrue
bands_are_true n plan moves f chosen p is run lt shown = record {
  ended = ended n plan moves f chosen p is run lt shown;
  last = last n plan moves f chosen p is run lt shown;
}
