-- The plan in which a packet is lost: its scripts are scripts, and its events are the scenario's and those that were put in.
use Rattle.std.proofs.Common.{◌≡◌, ◌≢◌, ◌⊎◌, ℕ, zero, suc, ◌+◌, ◌-◌, ◌<◌, ◌≤◌, Bool, true, false, cond, List, [], ◌∷◌, ◌++◌, length}
use Rattle.std.proofs.Common.{get_or, set, drop, take, Some, refl, sym, ap, ◌∙◌, inl, inr, arith, add-one, append_assoc, slice_get}
use Rattle.std.specs.Prelude.{◌==◌, ◌&&◌, ◌||◌, Contains, nat_lt, replicate}
use Rattle.std.proofs.lemmas.Bool.{cases_eq}
use Rattle.std.proofs.lemmas.Bool.Decides.{nat_tests}
use Rattle.std.proofs.lemmas.List.{append-nil, drop_all, get_or-set_other, get_or-set_same, length-append, length-replicate, length-set}
use Rattle.std.proofs.lemmas.List.{take_more}
use Rattle.std.proofs.lemmas.List.FromFn.{length-map-range_with_len}
use Rattle.pd_port.specs.declared.entry.Entry.{Entry}
use Rattle.pd_setup.specs.Events.{EventData}
use Rattle.pd_scenario.specs.Plan.{IsFollowedBy, IsPlan, IsScripted, Plan, count, force, is_change, script_of, told_at, with_script}
use Rattle.pd_scenario.specs.Plans.{plan_of}
use Rattle.pd_scenario.specs.Scenarios.{IsValid, ScenarioData}
use Rattle.pd_scenario.specs.Script.{script}
use Rattle.pd_scenario.proofs.Plans.{length-script, script_of-plan_of}
use Rattle.pd_scenario.proofs.Lists.{cases, none, there}
use Rattle.pd_report.specs.LeastMargin.{IsLeastMargin, margin_at}
use Rattle.pd_report.specs.declared.least.Margin.{Margin}
use Rattle.pd_sweep.specs.Lost.{is_ahead, lost, put_in, with_events}
use Rattle.pd_sweep.specs.Summaries.{AreFindings}
use Rattle.pd_sweep.specs.declared.choice.Loss.{Loss}
use Rattle.pd_sweep.specs.declared.findings.Findings.{Findings}
use Rattle.pd_sweep.specs.declared.packets.Target.{Target}

-- ---- one list in another

in_front : {X : Type 0} (xs ys : List X) (x : X) → Contains xs x → Contains (xs ++ ys) x
in_front [] ys x h = absurd (none x h)
in_front (y ∷ xs) ys x h =
    elim (cases y x xs h) [ inl is ↦ (0, omega arith, is) | inr later ↦ there y x (xs ++ ys) (in_front xs ys x later) ]

in_back : {X : Type 0} (xs ys : List X) (x : X) → Contains ys x → Contains (xs ++ ys) x
in_back [] ys x h = h
in_back (y ∷ xs) ys x h = there y x (xs ++ ys) (in_back xs ys x h)

in_either : {X : Type 0} (xs ys : List X) (x : X) → Contains (xs ++ ys) x → Contains xs x ⊎ Contains ys x
in_either [] ys x h = inr h
in_either (y ∷ xs) ys x h =
    elim (cases y x (xs ++ ys) h) [
      | inl is ↦ inl (0, omega arith, is)
      | inr later ↦ elim (in_either xs ys x later) [ inl front ↦ inl (there y x xs front) | inr back ↦ inr back ]
    ]

pub only_one : {X : Type 0} (n : ℕ) (x y : X) → Contains (replicate n x) y → x ≡ y
only_one zero x y h = absurd (none y h)
only_one (suc n) x y h = elim (cases x y (replicate n x) h) [ inl is ↦ is | inr later ↦ only_one n x y later ]

-- ---- a script with more events

module _ (more : List EventData) (at : ℕ) where
  -- its events
  events_if : (b : Bool) (e x : EventData) (es : List EventData)
      → (Contains (with_events more at es) x → Contains more x ⊎ Contains es x)
      → Contains (cond b (e ∷ with_events more at es) (more ++ (e ∷ es))) x → Contains more x ⊎ Contains (e ∷ es) x
  events_if true e x es rest h =
      elim (cases e x (with_events more at es) h) [
        | inl is ↦ inr (0, omega arith, is)
        | inr later ↦ elim (rest later) [ inl new ↦ inl new | inr old ↦ inr (there e x es old) ]
      ]
  events_if false e x es rest h = in_either more (e ∷ es) x h

  pub events_are : (es : List EventData) (x : EventData) → Contains (with_events more at es) x → Contains more x ⊎ Contains es x
  unfolding with_events
  events_are [] x h = inl h
  events_are (e ∷ es) x h = events_if (is_ahead at e) e x es (events_are es x) h

  old_if : (b : Bool) (e x : EventData) (es : List EventData) → (Contains es x → Contains (with_events more at es) x)
      → Contains (e ∷ es) x → Contains (cond b (e ∷ with_events more at es) (more ++ (e ∷ es))) x
  old_if true e x es rest h =
      elim (cases e x es h) [ inl is ↦ (0, omega arith, is) | inr later ↦ there e x (with_events more at es) (rest later) ]
  old_if false e x es rest h = in_back more (e ∷ es) x h

  pub old_there : (es : List EventData) (x : EventData) → Contains es x → Contains (with_events more at es) x
  unfolding with_events
  old_there [] x h = absurd (none x h)
  old_there (e ∷ es) x h = old_if (is_ahead at e) e x es (old_there es x) h

  new_if : (b : Bool) (e x : EventData) (es : List EventData) → (Contains more x → Contains (with_events more at es) x)
      → Contains more x → Contains (cond b (e ∷ with_events more at es) (more ++ (e ∷ es))) x
  new_if true e x es rest h = there e x (with_events more at es) (rest h)
  new_if false e x es rest h = in_front more (e ∷ es) x h

  pub new_there : (es : List EventData) (x : EventData) → Contains more x → Contains (with_events more at es) x
  unfolding with_events
  new_there [] x h = h
  new_there (e ∷ es) x h = new_if (is_ahead at e) e x es (new_there es x) h

  -- how many they are
  length_if : (b : Bool) (e : EventData) (es : List EventData) → length (with_events more at es) ≡ length more + length es
      → length (cond b (e ∷ with_events more at es) (more ++ (e ∷ es))) ≡ length more + length (e ∷ es)
  length_if true e es is = omega arith
  length_if false e es is = length-append more (e ∷ es)

  pub length_is : (es : List EventData) → length (with_events more at es) ≡ length more + length es
  unfolding with_events
  length_is [] = omega arith
  length_is (e ∷ es) = length_if (is_ahead at e) e es (length_is es)

-- ---- in order

-- each event is followed by the next
abbrev pub InChain : List EventData → Type 0
InChain [] = Unit {0}
InChain (e ∷ []) = Unit {0}
InChain (e ∷ (f ∷ es)) = IsFollowedBy e f × InChain (f ∷ es)

chain_adjacent : (es : List EventData) (i : ℕ) (e f : EventData) → InChain es → slice_get es i ≡ Some e → slice_get es (suc i) ≡ Some f
    → IsFollowedBy e f
chain_adjacent [] i e f order a b = absurd (cc)
chain_adjacent (x ∷ []) zero e f order a b = absurd (cc)
chain_adjacent (x ∷ []) (suc i) e f order a b = absurd (cc)
chain_adjacent (x ∷ (y ∷ es)) zero e f order a b =
    let first : x ≡ e = cc in
    let second : y ≡ f = cc in
    rw (← first, ← second) order.0
chain_adjacent (x ∷ (y ∷ es)) (suc i) e f order a b = chain_adjacent (y ∷ es) i e f order.1 a b

chain_of : (es : List EventData)
    → ((i : ℕ) (e f : EventData) → slice_get es i ≡ Some e → slice_get es (i + 1) ≡ Some f → IsFollowedBy e f) → InChain es
chain_of [] each = tt
chain_of (e ∷ []) each = tt
chain_of (e ∷ (f ∷ es)) each = (each 0 e f refl refl, chain_of (f ∷ es) (λ i x y a b. each (suc i) x y a (rw add-one (rw add-one at b))))

-- an event that is ahead at a time, and one that isn't
ahead_is : (at time : ℕ) (change : Bool) → (nat_lt time at || (time == at && change)) ≡ true → time ≤ at
ahead_is at time change h = grind (arith, nat_tests)

not_ahead_is : (at time : ℕ) (change : Bool) → (nat_lt time at || (time == at && change)) ≡ false
    → (at < time) ⊎ ((at ≡ time) × (change ≡ false))
not_ahead_is at time true h = inl (grind (arith, nat_tests))
not_ahead_is at time false h =
    let late : at ≤ time = grind (arith, nat_tests) in
    elim (cases_eq at time) [ inl same ↦ inr (same, refl) | inr other ↦ inl (omega arith) ]

module _ (x : EventData) (no_change : is_change x.happening ≡ false) where
  by_time : (e : EventData) → e.at ≤ x.at → IsFollowedBy e x
  by_time e soon = elim (cases_eq e.at x.at) [ inl same ↦ inr (same, no_change) | inr other ↦ inl (omega arith) ]

  row_first : (n : ℕ) (e : EventData) (es : List EventData) → is_ahead x.at e ≡ false → InChain (e ∷ es)
      → InChain (x ∷ (replicate n x ++ (e ∷ es)))
  row_first zero e es late order = (not_ahead_is x.at e.at (is_change e.happening) late, order)
  row_first (suc n) e es late order = (by_time x (omega arith), row_first n e es late order)

  row_alone : (n : ℕ) → InChain (x ∷ replicate n x)
  row_alone zero = tt
  row_alone (suc n) = (by_time x (omega arith), row_alone n)

  tail_chain : (e : EventData) (es : List EventData) → InChain (e ∷ es) → InChain es
  tail_chain e [] order = tt
  tail_chain e (f ∷ es) order = order.1

  front_if : (b : Bool) (n : ℕ) (e f : EventData) (es : List EventData) → e.at ≤ x.at → IsFollowedBy e f
      → InChain (cond b (f ∷ with_events (x ∷ replicate n x) x.at es) ((x ∷ replicate n x) ++ (f ∷ es)))
      → InChain (e ∷ cond b (f ∷ with_events (x ∷ replicate n x) x.at es) ((x ∷ replicate n x) ++ (f ∷ es)))
  front_if true n e f es soon follows order = (follows, order)
  front_if false n e f es soon follows order = (by_time e soon, order)

  front : (n : ℕ) (e : EventData) (es : List EventData) → e.at ≤ x.at → InChain (e ∷ es)
      → InChain (with_events (x ∷ replicate n x) x.at es) → InChain (e ∷ with_events (x ∷ replicate n x) x.at es)
  unfolding with_events
  front n e [] soon order rest = (by_time e soon, rest)
  front n e (f ∷ es) soon order rest = front_if (is_ahead x.at f) n e f es soon order.0 rest

  chain_if : (b : Bool) (n : ℕ) (e : EventData) (es : List EventData) → is_ahead x.at e ≡ b → InChain (e ∷ es)
      → InChain (with_events (x ∷ replicate n x) x.at es)
      → InChain (cond b (e ∷ with_events (x ∷ replicate n x) x.at es) ((x ∷ replicate n x) ++ (e ∷ es)))
  chain_if true n e es is order rest = front n e es (ahead_is x.at e.at (is_change e.happening) is) order rest
  chain_if false n e es is order rest = row_first n e es is order

  pub chained : (n : ℕ) (es : List EventData) → InChain es → InChain (with_events (x ∷ replicate n x) x.at es)
  unfolding with_events
  chained n [] order = row_alone n
  chained n (e ∷ es) order = chain_if (is_ahead x.at e) n e es refl order (chained n es (tail_chain e es order))

-- a script with a row of such events more is one
pub is_scripted : (n : ℕ) (plan : Plan) (p row : ℕ) (x : EventData) → IsPlan n plan → p < n → is_change x.happening ≡ false
    → length (script_of plan p) + row < 1000000
    → IsScripted plan.forces (with_events (replicate (row + 1) x) x.at (script_of plan p))
is_scripted n plan p row x is known no_change few =
    let count : row + 1 ≡ suc row = omega arith in
    let one_more : replicate (row + 1) x ≡ x ∷ replicate row x = ap (λ k. replicate k x) count in
    let events : List EventData = with_events (x ∷ replicate row x) x.at (script_of plan p) in
    let count_is = length_is (x ∷ replicate row x) x.at (script_of plan p) in
    let row_is = length-replicate row x in
    let chain : InChain events = chained x no_change row (script_of plan p) (chain_of (script_of plan p) (is.in_order p)) in
    rw one_more (record {
      brief = omega arith;
      in_order = λ i e f a b. chain_adjacent events i e f chain a (rw (← add-one) b);
      told = λ change there. old_there (x ∷ replicate row x) x.at (script_of plan p) (told_at change.at) (is.told p known change there);
    })

-- ---- the plan

-- a scenario's plan has a script for each port
pub scripts_known : (c : ScenarioData) (p : ℕ) → p < count (plan_of c) → p < length (plan_of c).scripts
unfolding plan_of
scripts_known c p known =
    let same = length-map-range_with_len (script c.cables c.sinks c.events) 1 (length c.settings) in
    omega arith

pub scripts_of_ports : (n : ℕ) (c : ScenarioData) → IsValid n c → (p : ℕ) → p < n → p < length (plan_of c).scripts
unfolding plan_of
scripts_of_ports n c valid p known =
    let same = length-map-range_with_len (script c.cables c.sinks c.events) 1 (length c.settings) in
    omega (arith, valid.settings_count)

module _ (plan : Plan) (loss : Loss) (behind : ℕ) (t : Target) where
  abbrev pub its_events : List EventData
  its_events = with_events (replicate (behind + 1) (put_in loss t.at)) t.at (script_of plan (t.port - 1))

  pub own_script : (p : ℕ) → p < length plan.scripts → p ≡ t.port - 1 → script_of (lost plan loss behind t) p ≡ its_events
  unfolding lost
  own_script p known place =
      ap (λ q. get_or (set plan.scripts q its_events) p []) (sym place) ∙ get_or-set_same plan.scripts p its_events [] known

  pub other_script : (p : ℕ) → p ≢ t.port - 1 → script_of (lost plan loss behind t) p ≡ script_of plan p
  unfolding lost
  other_script p other = get_or-set_other plan.scripts (t.port - 1) p its_events [] other

  pub same_count : count (lost plan loss behind t) ≡ count plan
  unfolding lost
  same_count = refl

  same_margin : (moves : List (ℕ × Entry)) (at : ℕ) → margin_at (lost plan loss behind t) moves at ≡ margin_at plan moves at
  unfolding lost force
  same_margin moves at = refl

  same_end : (lost plan loss behind t).end ≡ plan.end
  unfolding lost
  same_end = refl

  -- what is found of a run beside the settings and the budget of one of the plans is found of it beside the other's
  same_least : (moves : List (ℕ × Entry)) (m : Margin) → IsLeastMargin plan moves m → IsLeastMargin (lost plan loss behind t) moves m
  same_least moves m is =
      let margin = same_margin moves in
      record {
        soon = rw same_end is.soon;
        left_is = is.left_is ∙ sym (margin m.at);
        is_least = λ at soon. rw (margin at) (is.is_least at (rw same_end at soon));
        is_first = λ at early. rw (margin at) (is.is_first at early);
      }

  pub same_findings : (moves : List (ℕ × Entry)) (findings : Findings) → AreFindings plan moves findings
      → AreFindings (lost plan loss behind t) moves findings
  same_findings moves findings are = record {
    summary_is = are.summary_is;
    margin_is = same_least moves findings.margin are.margin_is;
    makers_are = are.makers_are;
  }

  -- its scripts
  pub length_own : (p : ℕ) → p < length plan.scripts
      → length (script_of (lost plan loss behind t) p) ≤ length (script_of plan p) + (behind + 1)
  length_own p known =
      let row = length-replicate (behind + 1) (put_in loss t.at) in
      elim (cases_eq p (t.port - 1)) [
        | inl same ↦
            let its = ap (λ (l : List EventData). length l) (own_script p known same) in
            let count = length_is (replicate (behind + 1) (put_in loss t.at)) t.at (script_of plan (t.port - 1)) in
            let old = ap (λ q. length (script_of plan q)) same in
            omega arith
        | inr other ↦ let its = ap (λ (l : List EventData). length l) (other_script p other) in omega arith
      ]

  pub same_scripts : length (lost plan loss behind t).scripts ≡ length plan.scripts
  unfolding lost
  same_scripts = length-set plan.scripts (t.port - 1) its_events

-- a port of a scenario has few events
pub few_events : (n : ℕ) (c : ScenarioData) → IsValid n c → (p : ℕ) → p < n → length (script_of (plan_of c) p) ≤ 4096
few_events n c valid p known =
    rw (script_of-plan_of c p (omega (arith, valid.settings_count))) (length-script n c valid (p + 1))

-- ---- how far a script is ahead

abbrev pub AreAhead : ℕ → List EventData → ℕ → Type 0
AreAhead at es k = (more : List EventData) → with_events more at es ≡ take k es ++ with_events more at (drop k es)

pub none_ahead : (at : ℕ) (es : List EventData) → AreAhead at es 0
none_ahead at es more = refl

dropped : (es : List EventData) (k : ℕ) (d : EventData) → k < length es → drop k es ≡ get_or es k d ∷ drop (k + 1) es
dropped [] k d below = absurd (omega arith)
dropped (e ∷ es) zero d below = refl
dropped (e ∷ es) (suc k) d below =
    let same : suc k + 1 ≡ suc (k + 1) = omega arith in
    dropped es k d (omega arith) ∙ ap (λ l. get_or es k d ∷ l) (sym (ap (λ n. drop n (e ∷ es)) same))

module _ (at : ℕ) (es : List EventData) (k : ℕ) (d : EventData) (below : k < length es) where
  pub one_ahead : is_ahead at (get_or es k d) ≡ true → AreAhead at es k → AreAhead at es (k + 1)
  unfolding with_events
  one_ahead test are more =
      let e = get_or es k d in
      let rest = drop (k + 1) es in
      are more ∙ ap (λ l. take k es ++ with_events more at l) (dropped es k d below)
      ∙ ap (λ b. take k es ++ cond b (e ∷ with_events more at rest) (more ++ (e ∷ rest))) test
      ∙ sym (append_assoc (take k es) (e ∷ []) (with_events more at rest))
      ∙ ap (λ l. l ++ with_events more at rest) (sym (take_more es k d below))

  pub ends_ahead : is_ahead at (get_or es k d) ≡ false → AreAhead at es k → (more : List EventData)
      → with_events more at es ≡ take k es ++ (more ++ drop k es)
  unfolding with_events
  ends_ahead test are more =
      let e = get_or es k d in
      let rest = drop (k + 1) es in
      are more ∙ ap (λ l. take k es ++ with_events more at l) (dropped es k d below)
      ∙ ap (λ b. take k es ++ cond b (e ∷ with_events more at rest) (more ++ (e ∷ rest))) test
      ∙ ap (λ l. take k es ++ (more ++ l)) (sym (dropped es k d below))

pub all_ahead : (at : ℕ) (es : List EventData) (k : ℕ) → length es ≤ k → AreAhead at es k → (more : List EventData)
    → with_events more at es ≡ take k es ++ (more ++ drop k es)
unfolding with_events
all_ahead at es k over are more =
    let nothing = drop_all k es over in
    are more ∙ ap (λ l. take k es ++ with_events more at l) nothing
    ∙ ap (λ l. take k es ++ l) (sym (append-nil more) ∙ ap (λ l. more ++ l) (sym nothing))

-- a script that is put together from its parts
pub put_together : (e0 e1 e2 e3 front back row script : List EventData) (k : ℕ) → e0 ≡ [] → e1 ≡ e0 ++ front → e2 ≡ e1 ++ row
    → e3 ≡ e2 ++ back → front ≡ take k script → back ≡ drop k script → e3 ≡ take k script ++ (row ++ drop k script)
put_together e0 e1 e2 e3 front back row script k h0 h1 h2 h3 f b = rw (h3, h2, h1, h0, f, b) (simp append_assoc)

pub is_lost : (plan : Plan) (loss : Loss) (behind : ℕ) (t : Target) (events : List EventData)
    → events ≡ with_events (replicate (behind + 1) (put_in loss t.at)) t.at (script_of plan (t.port - 1))
    → with_script plan (t.port - 1) events ≡ lost plan loss behind t
unfolding lost
is_lost plan loss behind t events is = ap (with_script plan (t.port - 1)) is
