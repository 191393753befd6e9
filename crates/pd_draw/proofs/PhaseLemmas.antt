-- The phase of a lane, and since when it is drawn, as moves go on.
use Rattle.std.proofs.Common.{◌≡◌, ◌≢◌, ◌⊎◌, ℕ, ◌+◌, ◌-◌, ◌<◌, ◌≤◌, Bool, true, false, cond, leb, ltb, List, [], ◌∷◌, ◌++◌}
use Rattle.std.proofs.Common.{length, get_or, set, Option, refl, sym, ap, ◌∙◌, inl, inr, arith}
use Rattle.std.specs.Prelude.{◌==◌, ◌&&◌, ◌↔◌, if◌then◌else◌}
use Rattle.std.proofs.lemmas.Bool.{cases_eq, cases_lt, eq-eqb, le-leb, le-ltb, lt-leb, lt-ltb, ne_eqb}
use Rattle.std.proofs.lemmas.List.{get_or-set_other, get_or-set_same, length-set}
use Rattle.pd_source.specs.declared.kinds.State as source
use Rattle.pd_source.specs.declared.kinds.State.TheVariants as state
use Rattle.pd_scenario.specs.Plan.{Plan, settings_of}
use Rattle.pd_run.specs.Run.{Move, after as left_by}
use Rattle.pd_watch.specs.Watch.{WatchData}
use Rattle.pd_show.specs.declared.seen.Glance.{Glance}
use Rattle.pd_show.specs.declared.seen.Seen.{Seen}
use Rattle.pd_show.specs.Choices.{is_of_port}
use Rattle.pd_show.specs.Seen.{all_seen, glance, seen_of}
use Rattle.pd_show.proofs.ShowLemmas.{seen_push}
use Rattle.pd_chart.specs.declared.frame.Frame.{Frame}
use Rattle.pd_chart.specs.Scale.{x_of}
use Rattle.pd_draw.specs.declared.lane.Lane.{Lane}
use Rattle.pd_draw.specs.declared.phase.Phase.{Phase}
use Rattle.pd_draw.specs.declared.phase.Phase.TheVariants.{Detached, Negotiating, Contract, HardReset, Disabled}
use Rattle.pd_draw.specs.declared.place.Place.{Place}
use Rattle.pd_draw.specs.Bands.{lane_in, phase_number, phase_of, phase_without}
use Rattle.pd_draw.specs.Lanes.{Drawn, drawn_of, has_place, lane_after, lane_at, lane_turned, lanes_after, marks_shown, no_lane, place_of}
use Rattle.pd_draw.specs.Marks.{Mark, joins, lane_marked, lane_with}
use Rattle.pd_draw.specs.Phases.{seen_then}
use Rattle.pd_draw.proofs.WalkLemmas.{drawn_push}

-- ---- phases

abbrev phase_at : ℕ → Phase
phase_at k =
    if k == 1 then Detached else if k == 2 then Negotiating else if k == 3 then Contract else if k == 4 then HardReset else Disabled

numbered : (a : Phase) → phase_at (phase_number a) ≡ a
numbered Detached = refl
numbered Negotiating = refl
numbered Contract = refl
numbered HardReset = refl
numbered Disabled = refl

-- phases of one number are one
pub one_phase : (a b : Phase) → phase_number a ≡ phase_number b → a ≡ b
one_phase a b e = sym (numbered a) ∙ ap phase_at e ∙ numbered b

no_contract : (s : source.State) → phase_without s ≢ Contract
no_contract state.Off e = cc
no_contract _ e = cc

by_contract : (b : Bool) (s : source.State) → (cond b Contract (phase_without s) ≡ Contract) ↔ (b ≡ true)
by_contract true s = (λ h. refl, λ h. refl)
by_contract false s = (λ h. absurd (no_contract s h), λ h. absurd (cc))

-- a port's phase is `contract` exactly where it has one
pub contract_phase : (g : Glance) → (phase_of g ≡ Contract) ↔ (g.contract ≡ true)
contract_phase g = by_contract g.contract g.source

-- ---- what marks leave

kept_if : (b : Bool) (l : Lane) (rooms nexts : List ℕ)
    → ((cond b l (record l { rooms = rooms; nexts = nexts; marked = true })).phase ≡ l.phase)
    × ((cond b l (record l { rooms = rooms; nexts = nexts; marked = true })).since ≡ l.since)
kept_if true l rooms nexts = (refl, refl)
kept_if false l rooms nexts = (refl, refl)

marks_keep : (p : Place) (l : Lane) (ms : List Mark) → ((lane_marked p l ms).phase ≡ l.phase) × ((lane_marked p l ms).since ≡ l.since)
unfolding lane_with
marks_keep p l [] = (refl, refl)
marks_keep p l (m ∷ ms) =
    let h : ((lane_with p l m).phase ≡ l.phase) × ((lane_with p l m).since ≡ l.since) = kept_if (joins p l m.figure) l _ _ in
    let k = marks_keep p (lane_with p l m) ms in (k.0 ∙ h.0, k.1 ∙ h.1)

pub move_keeps : (p : Place) (l : Lane) (s : Seen)
    → ((lane_after p l s).phase ≡ (lane_turned p l s).phase) × ((lane_after p l s).since ≡ (lane_turned p l s).since)
unfolding lane_after
move_keeps p l s = marks_keep p (lane_turned p l s) (marks_shown p.frame s)

-- ---- what a phase leaves

-- the phase stays; another one is drawn in its place; or another one is drawn from here on
abbrev pub TurnsSo : Place → Lane → Phase → Type 0
TurnsSo p l new =
    ((phase_number l.phase ≡ phase_number new) × (lane_in p l new ≡ l))
    ⊎ (((phase_number l.phase ≢ phase_number new) × (x_of p.frame p.at < x_of p.frame l.since + 10)
    × (lane_in p l new ≡ record l { phase = new }))
    ⊎ ((phase_number l.phase ≢ phase_number new) × (lane_in p l new ≡ record l { phase = new; since = p.at })))

pub turns_so : (p : Place) (l : Lane) (new : Phase) → TurnsSo p l new
unfolding lane_in
turns_so p l new =
    let narrow : Lane = record l { phase = new } in
    let wide : Lane = record l { phase = new; since = p.at } in
    let x = x_of p.frame p.at in
    let start = x_of p.frame l.since + 10 in
    elim (cases_eq (phase_number l.phase) (phase_number new)) [
      | inl same ↦ inl (same, ap (λ b. cond b l (cond (ltb x start) narrow wide)) (eq-eqb (phase_number l.phase) (phase_number new) same))
      | inr other ↦
          let turned = ap (λ b. cond b l (cond (ltb x start) narrow wide)) (ne_eqb (phase_number l.phase) (phase_number new) other) in
          elim (cases_lt x start) [
            | inl near ↦ inr (inl (other, near, turned ∙ ap (λ b. cond b narrow wide) (lt-ltb x start near)))
            | inr far ↦ inr (inr (other, turned ∙ ap (λ b. cond b narrow wide) (le-ltb x start far)))
          ]
    ]

-- ---- what a move leaves

pub seen_port : (plan : Plan) (ws : List WatchData) (m : Move) → (seen_of plan ws m).port ≡ m.port + 1
unfolding seen_of
seen_port plan ws m = refl

pub seen_at : (plan : Plan) (ws : List WatchData) (m : Move) → (seen_of plan ws m).entry.at ≡ m.entry.at
unfolding seen_of
seen_at plan ws m = refl

pub seen_after : (plan : Plan) (ws : List WatchData) (m : Move)
    → (seen_of plan ws m).after ≡ glance (settings_of plan m.port) (left_by plan m)
unfolding seen_of
seen_after plan ws m = refl

module _ (f : Frame) (chosen : Option ℕ) (before : ℕ) (lanes : List Lane) (s : Seen) where
  -- a move that has its place changes the lane of its port
  pub lane_here : (p : ℕ) → s.port ≡ p + 1 → p < length lanes → s.entry.at ≤ f.to → is_of_port chosen (p + 1) ≡ true
      → lane_at (lanes_after f chosen before lanes s) (p + 1) ≡ lane_after (place_of f before s) (lane_at lanes (p + 1)) s
  unfolding lanes_after
  lane_here p port known soon shown =
      let new : ℕ → Lane = λ q. lane_after (place_of f before s) (lane_at lanes q) s in
      let placed : has_place f chosen s ≡ true =
      ap (λ q. leb s.entry.at f.to && is_of_port chosen q) port ∙ ap (λ b. b && is_of_port chosen (p + 1)) (le-leb s.entry.at f.to soon)
      ∙ shown in
      ap (λ b. lane_at (cond b (set lanes (s.port - 1) (new s.port)) lanes) (p + 1)) placed
      ∙ ap (λ q. lane_at (set lanes (q - 1) (new q)) (p + 1)) port
      ∙ get_or-set_same lanes ((p + 1) - 1) (new (p + 1)) no_lane (omega arith)

  other_if : (b : Bool) (i k : ℕ) (l : Lane) → k ≢ i → get_or (cond b (set lanes i l) lanes) k no_lane ≡ get_or lanes k no_lane
  other_if true i k l ne = get_or-set_other lanes i k l no_lane ne
  other_if false i k l ne = refl

  -- and no other
  pub lane_other : (p : ℕ) → s.port - 1 ≢ p → lane_at (lanes_after f chosen before lanes s) (p + 1) ≡ lane_at lanes (p + 1)
  unfolding lanes_after
  lane_other p ne = other_if (has_place f chosen s) (s.port - 1) ((p + 1) - 1) _ (λ e. ne (omega arith))

  count_if : (b : Bool) (i : ℕ) (l : Lane) → length (cond b (set lanes i l) lanes) ≡ length lanes
  count_if true i l = length-set lanes i l
  count_if false i l = refl

  pub lanes_count : length (lanes_after f chosen before lanes s) ≡ length lanes
  unfolding lanes_after
  lanes_count = count_if (has_place f chosen s) (s.port - 1) _

  -- a move after the window changes none
  pub lanes_unplaced : f.to < s.entry.at → lanes_after f chosen before lanes s ≡ lanes
  unfolding lanes_after
  lanes_unplaced late =
      ap (λ b. cond (b && is_of_port chosen s.port)
      (set lanes (s.port - 1) (lane_after (place_of f before s) (lane_at lanes s.port) s)) lanes) (lt-leb s.entry.at f.to late)

-- the lanes after one more move
pub lanes_push : (plan : Plan) (f : Frame) (chosen : Option ℕ) (past : List Move) (m : Move)
    → (drawn_of f chosen (all_seen plan (past ++ m ∷ []))).lanes
    ≡ lanes_after f chosen (drawn_of f chosen (all_seen plan past)).before (drawn_of f chosen (all_seen plan past)).lanes
    (seen_then plan past m)
lanes_push plan f chosen past m =
    ap (λ (v : List Seen). (drawn_of f chosen v).lanes) (seen_push plan past m)
    ∙ ap (λ (d : Drawn). d.lanes) (drawn_push f chosen (all_seen plan past) (seen_then plan past m))
