-- The steps of the curves along a run.
use Rattle.std.proofs.Common.{◌≡◌, ℕ, zero, suc, ◌+◌, ◌-◌, ◌<◌, ◌≤◌, Bool, true, false, cond, max, List, [], ◌∷◌, ◌++◌}
use Rattle.std.proofs.Common.{length, map, sum, take, drop, get_or, Option, Some, None, refl, sym, ap, ◌∙◌, subst, inl, inr, arith}
use Rattle.std.proofs.Common.{append_assoc, length-append}
use Rattle.std.specs.Prelude.{◌&&◌, ◌||◌, All, is_some}
use Rattle.std.specs.List.{AllByRecursion, range_with_len}
use Rattle.std.proofs.lemmas.Bool.{cases_Bool, cases_eq, cases_lt, eq-eqb, le-leb, lt-leb, ne_eqb}
use Rattle.std.proofs.lemmas.List.{append-nil, get_or-append-add, get_or_append_left, map-append, take_all}
use Rattle.std.proofs.lemmas.List.Sums.{fold-append}
use Rattle.std.proofs.Math.Seq.{drop-append_seam, get_or-append_seam, take-append_seam}
use Rattle.pd_port.specs.declared.entry.ContractChange.{ContractChange}
use Rattle.pd_port.specs.declared.entry.Entry.{Entry}
use Rattle.pd_port.specs.declared.due.Due.{Due}
use Rattle.pd_port.specs.Happens.{is_budget}
use Rattle.pd_port.specs.Port.{entry_of}
use Rattle.pd_scenario.specs.Plan.{IsPlan, Plan, force, told_at}
use Rattle.pd_run.specs.Order.{EachAfter}
use Rattle.pd_run.specs.Run.{GoesOn, IsInOrder, Move, NoneLater, Run, shown}
use Rattle.pd_run.specs.UpTo.{before}
use Rattle.pd_run.proofs.Cut.{All-change, All-head, All-tail, EachAfter-back, cut_from}
use Rattle.pd_run.proofs.Forces.{change_or_none, same_force}
use Rattle.pd_run.proofs.Moves.{in_order-member}
use Rattle.pd_report.specs.Margins.{contracts_at, most_ports, power_on, up_to}
use Rattle.pd_report.specs.Walk.{ChangesBy, NoChangeLater, noted}
use Rattle.pd_report.proofs.MarginLemmas.{all-append, all-mono, at-due, powers-more, powers-start, powers_up_to, same-table}
use Rattle.pd_show.specs.declared.seen.Seen.{Seen}
use Rattle.pd_show.specs.Seen.{all_seen, seen_of}
use Rattle.pd_show.proofs.ShowLemmas.{seen_push, watched}
use Rattle.pd_chart.specs.declared.curves.Level.{Level}
use Rattle.pd_chart.specs.declared.frame.Frame.{Frame}
use Rattle.pd_chart.specs.Curves.{CurvesData, changes_hold, curves_after, curves_of, curves_start, floors, has_level, held, level_of}
use Rattle.pd_chart.specs.Curves.{no_powers, with_level}
use Rattle.pd_chart.specs.Laws.{AreDrawn, AreTrueSteps, CurvesAreTrue, IsTrueStep, starts_at}
use Rattle.pd_chart.proofs.LeastLemmas.{tightest_is}
use Rattle.pd_chart.proofs.ToldLemmas.{Had, change_had, had_budget}

-- ---- the order of moves

none_later-at : (t p : ℕ) (past : List Move) (k : ℕ) (d : Move) → NoneLater t p past → k < length past → (get_or past k d).due.time ≤ t
none_later-at t p [] k d h lt = absurd (omega arith)
none_later-at t p (m ∷ ms) zero d h lt = h.0.by_time
none_later-at t p (m ∷ ms) (suc k) d h lt = none_later-at t p ms k d h.1 (omega arith)

follow : (past more : List Move) (x : Move) (ms : List Move) (t : ℕ) → EachAfter IsInOrder ((past ++ x ∷ []) ++ more) ms → t < x.due.time
    → All (λ m. t < m.due.time) ms
follow past more x [] t o h k d lt = absurd (omega arith)
follow past more x (m ∷ ms) t o h zero d lt = let le = (in_order-member past more x m o.0).by_time in omega arith
follow past more x (m ∷ ms) t o h (suc k) d lt =
    follow past (more ++ m ∷ []) x ms t
    (subst (λ (l : List Move). EachAfter IsInOrder l ms) (append_assoc (past ++ x ∷ []) more (m ∷ [])) o.1) h k d (omega arith)

-- a move later than a time, and those after it
from_here : (past : List Move) (x : Move) (ms : List Move) (t : ℕ) → EachAfter IsInOrder past (x ∷ ms) → t < x.due.time
    → All (λ m. t < m.due.time) (x ∷ ms)
from_here past x ms t o h zero d lt = h
from_here past x ms t o h (suc k) d lt =
    follow past [] x ms t (subst (λ (l : List Move). EachAfter IsInOrder l ms) (sym (append-nil (past ++ x ∷ []))) o.1) h k d (omega arith)

shown_later : (plan : Plan) (past ms : List Move) (t : ℕ) → EachAfter (GoesOn plan) past ms → All (λ m. t < m.due.time) ms
    → AllByRecursion (λ (m : ℕ × Entry). t < m.1.at) (map shown ms)
shown_later plan past [] t goes h = tt
shown_later plan past (m ∷ ms) t goes h =
    let at = at-due plan past m goes.0 in
    let head : t < m.due.time = All-head (λ x. t < x.due.time) m ms h in
    (omega arith, shown_later plan (past ++ m ∷ []) ms t goes.1 (All-tail (λ x. t < x.due.time) m ms h))

-- ---- the last step so far

-- What is known of the curves after moves up to the window's end: the powers are those of the contracts that stand; the last step has
-- them, and the budget of a time after which no change of it was told of; no contract has changed since it; and the steps before it
-- are true.
record Known (plan : Plan) (entries : List (ℕ × Entry)) (f : Frame) (past : List Move) (c : CurvesData) : Type 0 where
  powers_are : c.powers ≡ map (power_on (map shown past)) (range_with_len 1 most_ports)
  front : List Level
  last : Level
  levels_are : c.levels ≡ front ++ last ∷ []
  last_powers : last.powers ≡ c.powers
  last_at : last.at ≡ c.at
  told : ℕ
  told_by : told ≤ last.at
  budget_is : last.budget ≡ force plan told
  none_told : (k : ℕ) (d : Move) → k < length past → is_budget (get_or past k d).due.what ≡ true → (get_or past k d).due.time ≤ told
  none_changed : NoChangeLater last.at (map shown past)
  not_before : f.from ≤ last.at
  not_after : last.at ≤ f.to
  up_to_now : (u : ℕ) → ((k : ℕ) (d : Move) → k < length past → (get_or past k d).due.time ≤ u) → last.at ≤ max f.from u
  starts : starts_at front last.at ≡ f.from
  true_so_far : AreTrueSteps plan entries front last.at

starts-push : (ls : List Level) (l : Level) (end : ℕ) → starts_at (ls ++ l ∷ []) end ≡ starts_at ls l.at
starts-push [] l end = refl
starts-push (x ∷ xs) l end = refl

steps-push : (plan : Plan) (entries : List (ℕ × Entry)) (ls : List Level) (l : Level) (end : ℕ) → AreTrueSteps plan entries ls l.at
    → l.at < end → ((t : ℕ) → l.at ≤ t → t < end → IsTrueStep plan entries t l) → AreTrueSteps plan entries (ls ++ l ∷ []) end
steps-push plan entries [] l end are lt is = (lt, is, tt)
steps-push plan entries (x ∷ xs) l end are lt is =
    let next = starts-push xs l end in (
      subst (λ n. x.at < n) (sym next) are.0,
      λ t low high. are.1 t low (subst (λ n. t < n) next high),
      steps-push plan entries xs l end are.2 lt is,
    )

-- between the last step and what follows it, the step tells the truth
module _ (n : ℕ) (plan : Plan) (moves past tail : List Move) (f : Frame) (c : CurvesData) (is : IsPlan n plan) (run : Run plan moves)
    (whole : moves ≡ past ++ tail) (k : Known plan (map shown moves) f past c) where
  -- a change of the budget up to a time at which nothing follows is no later than the last one told of
  no_change : (t v : ℕ) → All (λ m. t < m.due.time) tail → v ≤ t → Had plan moves 0 (told_at v) → v ≤ k.told
  no_change t v later soon h =
      let i = length h.earlier in
      let d = h.move in
      let on_time = h.on_time in
      let count = ap length h.moves_are ∙ length-append h.earlier (h.move ∷ h.later) in
      let parts = ap length whole ∙ length-append past tail in
      let here : get_or moves i d ≡ d =
      ap (λ (l : List Move). get_or l i d) h.moves_are ∙ get_or-append_seam h.earlier h.move h.later d in
      elim (cases_lt i (length past)) [
        | inl known ↦
            let is_move : get_or past i d ≡ d =
            sym (get_or_append_left past tail d i known) ∙ ap (λ (l : List Move). get_or l i d) (sym whole) ∙ here in
            let told = k.none_told i d known (ap (λ (x : Move). is_budget x.due.what) is_move ∙ had_budget plan moves v h) in
            let time = ap (λ (x : Move). x.due.time) is_move in
            omega arith
        | inr not_known ↦
            let place : length past + (i - length past) ≡ i = omega arith in
            let is_move : get_or tail (i - length past) d ≡ d =
            sym (get_or-append-add past tail (i - length past) d) ∙ ap (λ j. get_or (past ++ tail) j d) place
            ∙ ap (λ (l : List Move). get_or l i d) (sym whole) ∙ here in
            let time = ap (λ (x : Move). x.due.time) is_move in
            let late : t < (get_or tail (i - length past) d).due.time = later (i - length past) d (omega arith) in
            absurd (omega arith)
      ]

  contracts_then : (t : ℕ) → k.last.at ≤ t → All (λ m. t < m.due.time) tail → sum k.last.powers ≡ contracts_at (map shown moves) t
  unfolding contracts_at
  contracts_then t low later =
      let i = length (map shown past) in
      let entries_are : map shown moves ≡ map shown past ++ map shown tail = ap (map shown) whole ∙ map-append shown past tail in
      let first : take i (map shown moves) ≡ map shown past =
      ap (take i) entries_are ∙ take-append_seam (map shown past) (map shown tail) in
      let rest : drop i (map shown moves) ≡ map shown tail =
      ap (drop i) entries_are ∙ drop-append_seam (map shown past) (map shown tail) in
      let goes = EachAfter-back (GoesOn plan) [] past tail (subst (EachAfter (GoesOn plan) []) whole run.chained) in
      let no_later =
      all-mono (ChangesBy k.last.at) (ChangesBy t) (λ m h some. let e = h some in omega arith) (map shown past) k.none_changed in
      let up : (p : ℕ) → power_on (map shown past) p ≡ power_on (up_to t (map shown moves)) p =
      λ p. sym (powers_up_to (map shown moves) i t p (subst (NoChangeLater t) (sym first) no_later)
      (subst (AllByRecursion (λ (m : ℕ × Entry). t < m.1.at)) (sym rest) (shown_later plan past tail t goes later))
      ∙ ap (λ (l : List (ℕ × Entry)). power_on l p) first) in
      ap sum (k.last_powers ∙ k.powers_are ∙ same-table (power_on (map shown past)) (power_on (up_to t (map shown moves))) 1 most_ports up)

  last_true : (t : ℕ) → k.last.at ≤ t → t ≤ plan.end → All (λ m. t < m.due.time) tail → IsTrueStep plan (map shown moves) t k.last
  last_true t low soon later =
      let told_by = k.told_by in
      record {
        budget =
            elim (change_or_none plan.forces k.told t) [
              | inl ch ↦
                  let since = ch.after in
                  let by_then = ch.by_then in
                  let had = change_had n plan moves ch.change is run ch.one (omega arith) in
                  let no_later = no_change t ch.change.at later by_then had in
                  absurd (omega arith)
              | inr none ↦ k.budget_is ∙ same_force plan k.told t (omega arith) none
            ];
        contracts = contracts_then t low later;
      }

-- ---- one more move

either_false : (a b c : Bool) → ((a || b) || c) ≡ false → (a ≡ false) × (c ≡ false)
either_false true b c h = absurd (cc)
either_false false true c h = absurd (cc)
either_false false false c h = (refl, h)

none_of : (o : Option ContractChange) → is_some o ≡ false → o ≡ None
none_of None h = refl
none_of (Some change) h = absurd (cc)

entry_due : (plan : Plan) (past : List Move) (m : Move) → GoesOn plan past m → m.entry.due ≡ m.due
unfolding entry_of
entry_due plan past m h = ap (λ (e : Entry). e.due) h.entry_is

module _ (n : ℕ) (plan : Plan) (moves past later : List Move) (m : Move) (f : Frame) (c : CurvesData) (is : IsPlan n plan)
    (run : Run plan moves) (whole : moves ≡ past ++ m ∷ later) (goes : GoesOn plan past m) (order : EachAfter IsInOrder past (m ∷ later))
    (window : f.from ≤ f.to) (in_time : f.to ≤ plan.end) (soon : m.due.time ≤ f.to) (k : Known plan (map shown moves) f past c) where
  abbrev s : Seen
  s = seen_of plan (watched plan past) m

  at_time : m.entry.at ≡ m.due.time
  at_time = at-due plan past m goes

  powers_then : noted c.powers (m.port + 1) m.entry.contract ≡ map (power_on (map shown (past ++ m ∷ []))) (range_with_len 1 most_ports)
  powers_then =
      let known = goes.known in
      let ports = is.settings_count in
      let few = is.few_ports in
      ap (λ ps. noted ps (m.port + 1) m.entry.contract) k.powers_are
      ∙ powers-more (map shown past) (shown m) most_ports m.entry.contract refl (omega arith) (omega arith)
      ∙ ap (λ (l : List (ℕ × Entry)). map (power_on l) (range_with_len 1 most_ports)) (sym (map-append shown past (m ∷ [])))

  early_more : (i u : ℕ) (d : Move) → ((j : ℕ) (x : Move) → j < length (past ++ m ∷ []) → (get_or (past ++ m ∷ []) j x).due.time ≤ u)
      → i < length past → (get_or past i d).due.time ≤ u
  early_more i u d h lt =
      let e = ap (λ (x : Move). x.due.time) (get_or_append_left past (m ∷ []) d i lt) in
      let le = h i d (omega (arith, length-append past (m ∷ []))) in
      omega arith

  last_early : (u : ℕ) → ((j : ℕ) (x : Move) → j < length (past ++ m ∷ []) → (get_or (past ++ m ∷ []) j x).due.time ≤ u) → m.due.time ≤ u
  last_early u h =
      let e = ap (λ (x : Move). x.due.time) (get_or-append_seam past m [] m) in
      let le = h (length past) m (omega (arith, length-append past (m ∷ []))) in
      omega arith

  -- the move is no step
  quiet : has_level f s ≡ false → Known plan (map shown moves) f (past ++ m ∷ []) (curves_after f c s)
  unfolding seen_of curves_after
  quiet none =
      let tests : (is_some m.entry.contract || changes_hold s) || is_budget m.entry.due.what ≡ false =
      sym (ap (λ b. b && ((is_some m.entry.contract || changes_hold s) || is_budget m.entry.due.what))
      (le-leb m.entry.at f.to (omega (arith, at_time)))) ∙ none in
      let both = either_false (is_some m.entry.contract) (changes_hold s) (is_budget m.entry.due.what) tests in
      let unchanged : m.entry.contract ≡ None = none_of m.entry.contract both.0 in
      let new : CurvesData = record c { powers = noted c.powers (m.port + 1) m.entry.contract; holds = held c.holds s } in
      let same : noted c.powers (m.port + 1) m.entry.contract ≡ c.powers = ap (noted c.powers (m.port + 1)) unchanged in
      let level : CurvesData = with_level c (level_of f c s) in
      subst (Known plan (map shown moves) f (past ++ m ∷ [])) (sym (ap (λ b. cond b level new) none)) (record {
        powers_are = powers_then;
        front = k.front;
        last = k.last;
        levels_are = k.levels_are;
        last_powers = k.last_powers ∙ sym same;
        last_at = k.last_at;
        told = k.told;
        told_by = k.told_by;
        budget_is = k.budget_is;
        none_told = λ i d lt budget.
            elim (cases_lt i (length past)) [
              | inl before ↦
                  let e = get_or_append_left past (m ∷ []) d i before in
                  let time = ap (λ (x : Move). x.due.time) e in
                  let le = k.none_told i d before (ap (λ (x : Move). is_budget x.due.what) (sym e) ∙ budget) in
                  omega arith
              | inr not_before ↦
                  let here : i ≡ length past = omega (arith, length-append past (m ∷ [])) in
                  let e = ap (λ j. get_or (past ++ m ∷ []) j d) here ∙ get_or-append_seam past m [] d in
                  let no : is_budget m.due.what ≡ false =
                  ap (λ (x : Due). is_budget x.what) (sym (entry_due plan past m goes)) ∙ both.1 in
                  let yes : is_budget m.due.what ≡ true = ap (λ (x : Move). is_budget x.due.what) (sym e) ∙ budget in
                  absurd (cc)
            ];
        none_changed =
            subst (NoChangeLater k.last.at) (sym (map-append shown past (m ∷ [])))
            (all-append (ChangesBy k.last.at) (map shown past) (shown m ∷ []) k.none_changed
            ((λ some. absurd (let no : is_some m.entry.contract ≡ false = both.0 in cc)), tt));
        not_before = k.not_before;
        not_after = k.not_after;
        up_to_now = λ u h. k.up_to_now u (λ i d lt. early_more i u d h lt);
        starts = k.starts;
        true_so_far = k.true_so_far;
      })

  -- the move is a step, behind these
  stepped : (l : Level) (front : List Level) → l.at ≡ max f.from m.due.time → l.budget ≡ force plan m.due.time
      → l.powers ≡ noted c.powers (m.port + 1) m.entry.contract → (with_level c l).levels ≡ front ++ l ∷ [] → k.last.at ≤ l.at
      → starts_at front l.at ≡ f.from → AreTrueSteps plan (map shown moves) front l.at
      → Known plan (map shown moves) f (past ++ m ∷ []) (with_level c l)
  stepped l front at budget powers levels not_before starts are = record {
    powers_are = powers ∙ powers_then;
    front = front;
    last = l;
    levels_are = levels;
    last_powers = refl;
    last_at = refl;
    told = m.due.time;
    told_by = omega arith;
    budget_is = budget;
    none_told = λ i d lt told.
        elim (cases_lt i (length past)) [
          | inl before ↦
              let e = ap (λ (x : Move). x.due.time) (get_or_append_left past (m ∷ []) d i before) in
              let le = none_later-at m.due.time m.port past i d order.0 before in
              omega arith
          | inr last ↦
              let here : i ≡ length past = omega (arith, length-append past (m ∷ [])) in
              let e = ap (λ j. (get_or (past ++ m ∷ []) j d).due.time) here in
              let time = ap (λ (x : Move). x.due.time) (get_or-append_seam past m [] d) in
              omega arith
        ];
    none_changed =
        subst (NoChangeLater l.at) (sym (map-append shown past (m ∷ [])))
        (all-append (ChangesBy l.at) (map shown past) (shown m ∷ [])
        (all-mono (ChangesBy k.last.at) (ChangesBy l.at) (λ x h some. let le = h some in omega arith) (map shown past) k.none_changed)
        ((λ some. let e = at_time in omega arith), tt));
    not_before = let h = k.not_before in omega arith;
    not_after = omega arith;
    up_to_now = λ u h. let le = last_early u h in omega arith;
    starts = starts;
    true_so_far = are;
  }

  step : (l : Level) → l.at ≡ max f.from m.due.time → l.budget ≡ force plan m.due.time
      → l.powers ≡ noted c.powers (m.port + 1) m.entry.contract → Known plan (map shown moves) f (past ++ m ∷ []) (with_level c l)
  step l at budget powers =
      let up = k.up_to_now m.due.time (λ i d lt. none_later-at m.due.time m.port past i d order.0 lt) in
      let last_at = k.last_at in
      let levels_are = k.levels_are in
      let front = k.front in
      let count = length-append front (k.last ∷ []) in
      elim (cases_eq c.at l.at) [
        | inl same ↦
            let here : k.last.at ≡ l.at = last_at ∙ same in
            let short : length (front ++ k.last ∷ []) - 1 ≡ length front = omega arith in
            let kept : take (length c.levels - 1) c.levels ≡ front =
            ap (λ (v : List Level). take (length v - 1) v) levels_are ∙ ap (λ i. take i (front ++ k.last ∷ [])) short
            ∙ take-append_seam front (k.last ∷ []) in
            stepped l front at budget powers
            (ap (λ b. take (cond b (length c.levels - 1) (length c.levels)) c.levels ++ l ∷ []) (eq-eqb c.at l.at same)
            ∙ ap (λ v. v ++ l ∷ []) kept)
            (omega arith) (subst (λ i. starts_at front i ≡ f.from) here k.starts)
            (subst (AreTrueSteps plan (map shown moves) front) here k.true_so_far)
        | inr other ↦
            let less : k.last.at < l.at = before_it k.last.at l.at (λ e. other (sym last_at ∙ e)) (omega arith) in
            let kept : take (length c.levels) c.levels ≡ front ++ k.last ∷ [] =
            take_all (length c.levels) c.levels (omega arith) ∙ levels_are in
            stepped l (front ++ k.last ∷ []) at budget powers
            (ap (λ b. take (cond b (length c.levels - 1) (length c.levels)) c.levels ++ l ∷ []) (ne_eqb c.at l.at other)
            ∙ ap (λ v. v ++ l ∷ []) kept)
            (omega arith) (starts-push front k.last l.at ∙ k.starts)
            (steps-push plan (map shown moves) front k.last l.at k.true_so_far less
            (λ t low high.
            let from_low = k.not_before in
            let late : t < m.due.time = omega arith in
            last_true n plan moves past (m ∷ later) f c is run whole k t low (omega arith) (from_here past m later t order late)))
      ]
    where
      before_it : (a b : ℕ) → (a ≡ b → ⊥) → a ≤ b → a < b
      before_it a b ne le = omega arith

  -- it is one
  steps : has_level f s ≡ true → Known plan (map shown moves) f (past ++ m ∷ []) (curves_after f c s)
  unfolding seen_of curves_after
  steps some =
      let level : CurvesData = with_level c (level_of f c s) in
      let new : CurvesData = record c { powers = noted c.powers (m.port + 1) m.entry.contract; holds = held c.holds s } in
      subst (Known plan (map shown moves) f (past ++ m ∷ [])) (sym (ap (λ b. cond b level new) some))
      (step (level_of f c s) (ap (max f.from) at_time) refl refl)

  known_more : Known plan (map shown moves) f (past ++ m ∷ []) (curves_after f c s)
  known_more = elim (cases_Bool (has_level f s)) [ inl some ↦ steps some | inr none ↦ quiet none ]

-- ---- a run

-- the curves after moves
abbrev curves_then : Plan → Frame → List Move → CurvesData
curves_then plan f past = curves_of f plan (all_seen plan past)

curves_push : (plan : Plan) (f : Frame) (past : List Move) (m : Move)
    → curves_then plan f (past ++ m ∷ []) ≡ curves_after f (curves_then plan f past) (seen_of plan (watched plan past) m)
curves_push plan f past m =
    ap (curves_of f plan) (seen_push plan past m)
    ∙ fold-append (curves_after f) (curves_start f plan) (all_seen plan past) (seen_of plan (watched plan past) m ∷ [])

known_none : (plan : Plan) (entries : List (ℕ × Entry)) (f : Frame) → f.from ≤ f.to → Known plan entries f [] (curves_then plan f [])
unfolding curves_start
known_none plan entries f window = record {
  powers_are = powers-start 1 most_ports;
  front = [];
  last = record { at = f.from; budget = force plan f.from; powers = no_powers; holds = floors plan };
  levels_are = refl;
  last_powers = refl;
  last_at = refl;
  told = f.from;
  told_by = omega arith;
  budget_is = refl;
  none_told = λ k d lt told. absurd (omega arith);
  none_changed = tt;
  not_before = omega arith;
  not_after = window;
  up_to_now = λ u h. omega arith;
  starts = refl;
  true_so_far = tt;
}

known_along : (n : ℕ) (plan : Plan) (moves past ms later : List Move) (f : Frame) → IsPlan n plan → Run plan moves
    → moves ≡ past ++ (ms ++ later) → EachAfter (GoesOn plan) past (ms ++ later) → EachAfter IsInOrder past (ms ++ later) → f.from ≤ f.to
    → f.to ≤ plan.end → All (λ m. m.due.time ≤ f.to) ms → Known plan (map shown moves) f past (curves_then plan f past)
    → Known plan (map shown moves) f (past ++ ms) (curves_then plan f (past ++ ms))
known_along n plan moves past [] later f is run whole goes order window in_time soon k =
    subst (λ (l : List Move). Known plan (map shown moves) f l (curves_then plan f l)) (sym (append-nil past)) k
known_along n plan moves past (m ∷ ms) later f is run whole goes order window in_time soon k =
    let head : m.due.time ≤ f.to = All-head (λ x. x.due.time ≤ f.to) m ms soon in
    let more =
    known_more n plan moves past (ms ++ later) m f (curves_then plan f past) is run whole goes.0 order window in_time head k in
    subst (λ (l : List Move). Known plan (map shown moves) f l (curves_then plan f l)) (append_assoc past (m ∷ []) ms)
    (known_along n plan moves (past ++ m ∷ []) ms later f is run (whole ∙ sym (append_assoc past (m ∷ []) (ms ++ later))) goes.1 order.1
    window in_time (All-tail (λ x. x.due.time ≤ f.to) m ms soon)
    (subst (Known plan (map shown moves) f (past ++ m ∷ [])) (sym (curves_push plan f past m)) more))

-- moves after the window are no steps
no_level : (plan : Plan) (past : List Move) (m : Move) (f : Frame) (c : CurvesData) → GoesOn plan past m → f.to < m.due.time
    → (curves_after f c (seen_of plan (watched plan past) m)).levels ≡ c.levels
unfolding curves_after seen_of
no_level plan past m f c goes late =
    let s : Seen = seen_of plan (watched plan past) m in
    let at = at-due plan past m goes in
    ap (λ b. (cond (b && ((is_some m.entry.contract || changes_hold s) || is_budget m.entry.due.what)) (with_level c (level_of f c s))
    (record c { powers = noted c.powers (m.port + 1) m.entry.contract; holds = held c.holds s })).levels)
    (lt-leb m.entry.at f.to (omega arith))

levels_stay : (plan : Plan) (past ms : List Move) (f : Frame) → EachAfter (GoesOn plan) past ms → All (λ m. f.to + 1 ≤ m.due.time) ms
    → (curves_then plan f (past ++ ms)).levels ≡ (curves_then plan f past).levels
levels_stay plan past [] f goes late = ap (λ (l : List Move). (curves_then plan f l).levels) (append-nil past)
levels_stay plan past (m ∷ ms) f goes late =
    let head : f.to + 1 ≤ m.due.time = All-head (λ x. f.to + 1 ≤ x.due.time) m ms late in
    ap (λ (l : List Move). (curves_then plan f l).levels) (sym (append_assoc past (m ∷ []) ms))
    ∙ levels_stay plan (past ++ m ∷ []) ms f goes.1 (All-tail (λ x. f.to + 1 ≤ x.due.time) m ms late)
    ∙ ap (λ (c : CurvesData). c.levels) (curves_push plan f past m)
    ∙ no_level plan past m f (curves_then plan f past) goes.0 (omega arith)

drawn_steps : (plan : Plan) (entries : List (ℕ × Entry)) (f : Frame) (l : Level) (ls : List Level) → l.at ≡ f.from
    → AreTrueSteps plan entries (l ∷ ls) (f.to + 1) → AreDrawn plan entries f (l ∷ ls)
drawn_steps plan entries f l ls start are =
    let h = tightest_is plan entries f.from (f.to + 1) l ls (sym start) are in
    let soon = h.earlier in (
      start,
      are,
      record {
        of_window = record {
          not_before = h.not_before;
          not_after = omega arith;
          left_is = h.left_is;
          is_least = λ t low high. h.is_least t low (omega arith);
          is_first = h.is_first;
        };
        of_run = λ from to. record {
          soon = omega arith;
          left_is = h.left_is;
          is_least = λ t high. h.is_least t (omega arith) (omega arith);
          is_first = λ t high. h.is_first t (omega arith) high;
        };
      },
    )

drawn_all : (plan : Plan) (entries : List (ℕ × Entry)) (f : Frame) (front : List Level) (last : Level) → starts_at front last.at ≡ f.from
    → AreTrueSteps plan entries (front ++ last ∷ []) (f.to + 1) → AreDrawn plan entries f (front ++ last ∷ [])
drawn_all plan entries f [] last start are = drawn_steps plan entries f last [] start are
drawn_all plan entries f (l ∷ ls) last start are = drawn_steps plan entries f l (ls ++ last ∷ []) start are

pub curves_true : CurvesAreTrue
curves_true n plan moves f is run window in_time =
    let cut = cut_from (f.to + 1) [] moves run.ordered in
    let past : List Move = before (f.to + 1) moves in
    let chained = subst (EachAfter (GoesOn plan) []) cut.whole run.chained in
    let ordered = subst (EachAfter IsInOrder []) cut.whole run.ordered in
    let k =
    known_along n plan moves [] past cut.rest f is run cut.whole chained ordered window in_time
    (All-change (λ m. m.due.time < f.to + 1) (λ m. m.due.time ≤ f.to) past (λ m h. omega arith) cut.earlier)
    (known_none plan (map shown moves) f window) in
    let not_after = k.not_after in
    let are =
    steps-push plan (map shown moves) k.front k.last (f.to + 1) k.true_so_far (omega arith)
    (λ t low high.
    last_true n plan moves past cut.rest f (curves_then plan f past) is run cut.whole k t low (omega arith)
    (All-change (λ m. f.to + 1 ≤ m.due.time) (λ m. t < m.due.time) cut.rest (λ m h. omega arith) cut.later)) in
    let levels : (curves_then plan f moves).levels ≡ k.front ++ k.last ∷ [] =
    ap (λ (l : List Move). (curves_then plan f l).levels) cut.whole
    ∙ levels_stay plan past cut.rest f (EachAfter-back (GoesOn plan) [] past cut.rest chained) cut.later ∙ k.levels_are in
    subst (AreDrawn plan (map shown moves) f) (sym levels) (drawn_all plan (map shown moves) f k.front k.last k.starts are)
