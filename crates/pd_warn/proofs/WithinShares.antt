-- A port keeps within the share that is told of it.
use Rattle.std.proofs.Common.{◌≡◌, ◌≢◌, ⊎_elim, inl, inr, ℕ, ◌+◌, ◌-◌, ◌*◌, ◌<◌, ◌≤◌, max, List, [], ◌∷◌, ◌++◌, length, map}
use Rattle.std.proofs.Common.{sum, slice_index, slice_set, refl, sym, ap, ◌∙◌, subst, arith, append_assoc}
use Rattle.std.specs.List.{filter_map}
use Rattle.std.proofs.lemmas.List.{append-nil, get_or-set_other, get_or-set_same, length-set}
use Rattle.std.proofs.lemmas.List.Elements.{All-contains, All-nil}
use Rattle.std.proofs.lemmas.List.Sums.{get_or-le-sum_by, sum_by-cons}
use Rattle.std.proofs.lemmas.Bool.{cases_eq}
use Rattle.pd_objects.specs.Supply.{SupplyData}
use Rattle.pd_objects.specs.Answers.{IsAllowed}
use Rattle.pd_setup.specs.Settings.{SettingsData, floor_of}
use Rattle.pd_source.specs.Sound.{IsSettled}
use Rattle.pd_source.specs.Step.{contracted, hold_of, powers, requested}
use Rattle.pd_port.specs.Port.{PortRecord, ask, detached, hold, source_settings}
use Rattle.pd_port.proofs.Agreed.{ports_agree}
use Rattle.pd_port.proofs.PortLaws.{hold_contract, hold_detached, hold_fits, hold_floor}
use Rattle.pd_line.specs.Record.{nothing_attached}
use Rattle.pd_ledger.specs.Account.{free_of}
use Rattle.pd_ledger.proofs.Offers.{answer-allowed}
use Rattle.pd_ledger.proofs.Sums.{sum-set}
use Rattle.pd_scenario.specs.Plan.{Plan, count, floors_of, force, no_settings, settings_of}
use Rattle.pd_scenario.specs.Plans.{plan_of}
use Rattle.pd_scenario.specs.Scenarios.{IsValid, ScenarioData, budget_of, floors_mw}
use Rattle.pd_scenario.proofs.Lists.{least_first}
use Rattle.pd_run.specs.Order.{EachAfter}
use Rattle.pd_run.specs.Run.{GoesOn, IsAnswered, Move, Standing, account_after, after, holds_after, standing}
use Rattle.pd_run.proofs.Awaited.{floor_at, length-floors, sum-below}
use Rattle.pd_run.proofs.Moves.{standing-other, standing-same}
use Rattle.pd_run.proofs.Steps.{hold_known, length-holds_after}
use Rattle.pd_warn.specs.declared.warning.Warning.TheVariants.{SmallShare}
use Rattle.pd_warn.specs.Stated.{budget_by, greatest_budget, share_of}
use Rattle.pd_warn.specs.Truth.{IsOfferWithin, KeepsWithin, SharesAreNeverPassed}
use Rattle.pd_warn.proofs.Greatest.{each_within, first_within, force_within}
use Rattle.pd_warn.proofs.OfRun.{IsSo, all_so}
use Rattle.pd_warn.proofs.Told.{IsShare}

-- ---- one port: all that it holds covers the offer that it makes

offer_held : (share : ℕ) (s : SettingsData) (r : PortRecord) → hold s r ≤ share → IsOfferWithin share s.supplies r.source.draft_offer
unfolding hold hold_of
offer_held share s r h =
    let first = max (max (floor_of s) (contracted r.source.contract)) (requested (source_settings s) r.source.accepted_request) in
    each_within first (powers s.supplies r.source.draft_offer) share h

no_powers : (supplies : List SupplyData) (share : ℕ) → IsOfferWithin share supplies []
no_powers [] share = All-nil _
no_powers (s ∷ ss) share = All-nil _

-- what is delivered stays, falls, or is the offer that was made
settled_within : (share : ℕ) (s : SettingsData) (r : PortRecord) (offer : List ℕ) → KeepsWithin share s r → IsSettled r.source offer
    → IsOfferWithin share s.supplies offer
settled_within share s r offer h (inl same) = subst (IsOfferWithin share s.supplies) (sym same) h.delivered
settled_within share s r offer h (inr (inl none)) = subst (IsOfferWithin share s.supplies) (sym none) (no_powers s.supplies share)
settled_within share s r offer h (inr (inr made)) = subst (IsOfferWithin share s.supplies) (sym made.0) h.made

by_hold : (share : ℕ) (s : SettingsData) (r : PortRecord) → hold s r ≤ share → IsOfferWithin share s.supplies r.source.delivered_offer
    → KeepsWithin share s r
by_hold share s r h delivered = record {
  held = h;
  made = offer_held share s r h;
  delivered = delivered;
  contract = let covers = hold_contract s r in omega arith;
}

detached_within : (share : ℕ) (s : SettingsData) → floor_of s ≤ share → KeepsWithin share s (detached s)
unfolding detached nothing_attached
detached_within share s h =
    by_hold share s (detached s) (let e = hold_detached s in omega arith) (no_powers s.supplies share)

-- ---- what is free

-- the others' holds come to no less than their floors
others_hold : (plan : Plan) (past : List Move) (p : ℕ) → p < count plan
    → sum (floors_of plan) ≤ sum (slice_set (holds_after plan past) p 0) + floor_of (settings_of plan p)
others_hold plan past p lt =
    let holds = holds_after plan past in
    let floors = floors_of plan in
    let many : length holds ≡ length floors = length-holds_after plan past ∙ sym (length-floors plan) in
    let here : p < length floors = omega (arith, length-floors plan) in
    let there : p < length holds = omega arith in
    let below = sum-below (slice_set floors p 0) (slice_set holds p 0) (length-set floors p 0 ∙ sym many ∙ sym (length-set holds p 0))
    (λ k kn. ⊎_elim
    (λ (same : k ≡ p).
    let none : slice_index (slice_set floors p 0) k ≡ 0 = ap (λ j. slice_index (slice_set floors p 0) j) same
    ∙ get_or-set_same floors p 0 0 here in
    omega arith)
    (λ (other : k ≢ p).
    let known : k < count plan = omega (arith, length-set floors p 0, length-floors plan) in
    let low = hold_floor (settings_of plan k) (standing plan past k).state in
    omega (
      arith,
      get_or-set_other floors p k 0 0 other,
      get_or-set_other holds p k 0 0 other,
      floor_at plan k,
      hold_known plan past k known,
    ))
    (cases_eq k p)) in
    omega (arith, sum-set floors p 0 here, floor_at plan p)

floors_in_mw : (ss : List SettingsData) → sum (map floor_of ss) ≡ floors_mw ss * 1000
floors_in_mw [] = refl
floors_in_mw (s ∷ ss) =
    let rest = floors_in_mw ss in
    let first = sum_by-cons (λ n. n) (floor_of s) (map floor_of ss) in
    let more = sum_by-cons (λ (x : SettingsData). x.floor_mw) s ss in
    omega arith

-- what is free is within the share of a budget that is no less
free_within : (budget greatest floors own others : ℕ) → own ≤ floors → floors ≤ greatest → budget ≤ greatest * 1000
    → floors * 1000 ≤ others + own * 1000 → max (own * 1000) (budget - others) ≤ (greatest - (floors - own)) * 1000
free_within budget greatest floors own others a b c d = omega arith

-- ---- a port of a scenario

-- what is known of a port by which a share is told
record Told (c : ScenarioData) (p share : ℕ) : Type 0 where
  known : p < length c.settings
  share_is : share
      ≡ share_of (greatest_budget c.budget_mw c.end_us c.events) (floors_mw c.settings) (settings_of (plan_of c) p)

settings_are : (c : ScenarioData) → (plan_of c).settings ≡ c.settings
unfolding plan_of
settings_are c = refl

end_is : (c : ScenarioData) → (plan_of c).end ≡ c.end_us
unfolding plan_of
end_is c = refl

told_of : (c : ScenarioData) (p share : ℕ) → IsShare (greatest_budget c.budget_mw c.end_us c.events) (floors_mw c.settings) 1 c.settings
    (p + 1) share → Told c p share
unfolding plan_of
told_of c p share h =
    let place : h.place ≡ p = omega (arith, h.number) in
    record {
      known = omega (arith, h.known);
      share_is =
          h.share_is
          ∙ ap (λ k. share_of (greatest_budget c.budget_mw c.end_us c.events) (floors_mw c.settings) (settings_of (plan_of c) k)) place;
    }

-- the floors of a valid scenario are within its budget at the start, and so within the greatest
funded : (n : ℕ) (c : ScenarioData) → IsValid n c → floors_mw c.settings ≤ greatest_budget c.budget_mw c.end_us c.events
funded n c is =
    let least = least_first (filter_map budget_of c.events) c.budget_mw in
    let greatest = first_within c.budget_mw (filter_map (budget_by c.end_us) c.events) in
    omega (arith, is.funded)

own_floor : (c : ScenarioData) (p : ℕ) → p < length c.settings → (settings_of (plan_of c) p).floor_mw ≤ floors_mw c.settings
unfolding plan_of
own_floor c p known = get_or-le-sum_by (λ (s : SettingsData). s.floor_mw) c.settings p no_settings known

floor_within : (n : ℕ) (c : ScenarioData) (p share : ℕ) → IsValid n c → Told c p share → floor_of (settings_of (plan_of c) p) ≤ share
floor_within n c p share is told =
    let a = own_floor c p told.known in let b = funded n c is in omega (arith, told.share_is)

-- what is free at a time of the run is within the share
free_at : (n : ℕ) (c : ScenarioData) (p share : ℕ) (past : List Move) (at : ℕ) → IsValid n c → Told c p share → at ≤ c.end_us
    → free_of (account_after (plan_of c) past at) p ≤ share
free_at n c p share past at is told soon =
    let plan = plan_of c in
    let greatest = greatest_budget c.budget_mw c.end_us c.events in
    let floors = floors_mw c.settings in
    let own = (settings_of plan p).floor_mw in
    let others = sum (slice_set (holds_after plan past) p 0) in
    let known : p < count plan = subst (λ (ss : List SettingsData). p < length ss) (sym (settings_are c)) told.known in
    let all : sum (floors_of plan) ≡ floors * 1000 =
    ap (λ (ss : List SettingsData). sum (map floor_of ss)) (settings_are c) ∙ floors_in_mw c.settings in
    let held : floors * 1000 ≤ others + own * 1000 = omega (arith, others_hold plan past p known) in
    let most = free_within (force plan at) greatest floors own others (own_floor c p told.known) (funded n c is) (force_within c at soon)
    held in
    omega (arith, told.share_is, floor_at plan p)

-- ---- along the run

-- a port keeps within its share after these moves
abbrev Keeps : ScenarioData → ℕ → ℕ → List Move → Type 0
Keeps c p share past = KeepsWithin share (settings_of (plan_of c) p) (standing (plan_of c) past p).state

own_move : (n : ℕ) (c : ScenarioData) (share : ℕ) (past : List Move) (m : Move) → IsValid n c → Told c m.port share
    → GoesOn (plan_of c) past m → IsAnswered (plan_of c) past m → m.due.time ≤ c.end_us → Keeps c m.port share past
    → Keeps c m.port share (past ++ m ∷ [])
own_move n c share past m is told goes is_answered soon h =
    let plan = plan_of c in
    let s = settings_of plan m.port in
    let account = account_after plan past m.due.time in
    let before : KeepsWithin share s m.before = subst (KeepsWithin share s) (sym goes.before_is) h in
    let allowed : IsAllowed (free_of account m.port) (ask s m.before m.due) m.answer =
    subst (IsAllowed (free_of account m.port) (ask s m.before m.due)) (sym is_answered)
    (answer-allowed account m.port (ask s m.before m.due)) in
    let fits = hold_fits s m.before m.due m.answer (free_of account m.port) allowed in
    let free = free_at n c m.port share past m.due.time is told soon in
    let next : KeepsWithin share s (after plan m) =
    by_hold share s (after plan m) (omega (arith, before.held))
    (settled_within share s m.before _ before (ports_agree s m.before m.due m.answer).delivered) in
    subst (λ (x : Standing). KeepsWithin share s x.state) (sym (standing-same plan past m m.port refl)) next

one_move : (n : ℕ) (c : ScenarioData) (p share : ℕ) (past : List Move) (m : Move) → IsValid n c → Told c p share
    → GoesOn (plan_of c) past m → IsAnswered (plan_of c) past m → m.due.time ≤ c.end_us → Keeps c p share past
    → Keeps c p share (past ++ m ∷ [])
one_move n c p share past m is told goes is_answered soon h =
    ⊎_elim
    (λ (same : m.port ≡ p).
    subst (λ k. Keeps c k share (past ++ m ∷ [])) same
    (own_move n c share past m is (subst (λ k. Told c k share) (sym same) told) goes is_answered soon
    (subst (λ k. Keeps c k share past) (sym same) h)))
    (λ (other : m.port ≢ p). subst (λ (x : Standing). KeepsWithin share (settings_of (plan_of c) p) x.state)
    (sym (standing-other (plan_of c) past m p other)) h)
    (cases_eq m.port p)

all_moves : (n : ℕ) (c : ScenarioData) (p share : ℕ) (past done rest : List Move) → IsValid n c → Told c p share
    → EachAfter (GoesOn (plan_of c)) past (done ++ rest) → EachAfter (IsAnswered (plan_of c)) past (done ++ rest)
    → EachAfter (λ _ m. m.due.time ≤ (plan_of c).end) past (done ++ rest) → Keeps c p share past → Keeps c p share (past ++ done)
all_moves n c p share past [] rest is told goes answers timely h = subst (Keeps c p share) (sym (append-nil past)) h
all_moves n c p share past (m ∷ ms) rest is told goes answers timely h =
    subst (Keeps c p share) (append_assoc past (m ∷ []) ms)
    (all_moves n c p share (past ++ m ∷ []) ms rest is told goes.1 answers.1 timely.1
    (one_move n c p share past m is told goes.0 answers.0 (omega (arith, timely.0, end_is c)) h))

pub shares_are_never_passed : SharesAreNeverPassed
shares_are_never_passed n c ws is warnings p share warned done rest e =
    let plan = plan_of c in
    let run = warnings.safe.run in
    let told : Told c p share =
    told_of c p share (All-contains (IsSo c) ws (SmallShare (p + 1) share) (all_so n c ws warnings) warned) in
    all_moves n c p share [] done rest is told (subst (EachAfter (GoesOn plan) []) e run.chained)
    (subst (EachAfter (IsAnswered plan) []) e run.answered)
    (subst (EachAfter (λ _ m. m.due.time ≤ plan.end) []) e run.timely)
    (detached_within share (settings_of plan p) (floor_within n c p share is told))
