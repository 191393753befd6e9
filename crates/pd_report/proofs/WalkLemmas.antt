-- A walk over the entries of a run and the changes of the budget, step by step.
use Rattle.std.proofs.Common.{◌≡◌, ℕ, zero, suc, ◌+◌, ◌-◌, ◌<◌, ◌≤◌, Bool, true, false, cond, eqb, List, [], ◌∷◌, ◌++◌, map, take}
use Rattle.std.proofs.Common.{drop, length, replicate}
use Rattle.std.proofs.Common.{Option, Some, None, Result, refl, sym, ap, subst, ◌∙◌, arith, append_assoc}
use Rattle.std.specs.Prelude.{IfSome, sum, slice_get, ◌||◌, ◌&&◌, not, Ok, Err}
use Rattle.std.specs.List.{AllByRecursion, flat_map, range_with_len}
use Rattle.std.specs.Io.KnownBytes.{Appends}
use Rattle.std.proofs.KnownBytes.{Appends-trans}
use Rattle.std.proofs.lemmas.Bool.{eq-eqb, ne_eqb}
use Rattle.std.proofs.lemmas.List.{append-nil}
use Rattle.std.proofs.lemmas.Option.{slice_get_within}
use Rattle.pd_port.specs.declared.entry.Entry.{Entry}
use Rattle.pd_scenario.specs.Plan.{Plan, force}
use Rattle.pd_run.specs.declared.note.Note.TheVariants.{Contract}
use Rattle.pd_run.specs.Notes.{Leaves, NoneLeaves}
use Rattle.pd_device.specs.declared.fault.BenchFault.{BenchFault}
use Rattle.pd_device.specs.Device.{Writes, WrotePart}
use Rattle.pd_device.proofs.DeviceLemmas.{WrotePart-after, WrotePart-longer}
use Rattle.pd_report.specs.declared.walk.Standing.{Standing}
use Rattle.pd_report.specs.declared.walk.Walk.{Walk}
use Rattle.pd_report.specs.Margins.{most_ports, power_on, up_to, contracts_at, stays_at, has_line, instant_text, margin_text}
use Rattle.pd_report.specs.LeastMargin.{margin_at, margin_of}
use Rattle.pd_report.specs.Walk.{standing_at, standing_before, standing_of, noted, noted_walk, line_after}
use Rattle.pd_report.specs.Walk.{KnowsBudget, GoesOnTo, ChangesBy, NoChangeLater, NoneBefore, IsWalk, left_of, text_before}
use Rattle.pd_report.proofs.MarginLemmas.{Moves, InOrder, all-mono, take-next, same-table, none_of, powers-start, powers-more, powers-same}
use Rattle.pd_report.proofs.MarginLemmas.{powers_up_to, text-next, text-to, on-port, none-before-rest, changes-by-next}
use Rattle.pd_report.proofs.BudgetLemmas.{force-stays}
use Rattle.pd_report.proofs.NotedLemmas.{along, at_index, not_left}

standing : ℕ → ℕ → Standing
standing c b = record { contracts = c; budget = b }

flipped : (b : Bool) (x : List ℕ) → cond b [] x ≡ cond (not b) x []
flipped true x = refl
flipped false x = refl

-- where neither the sum nor the budget changes no line stands
silent_at : (plan : Plan) (moves : Moves) (t : ℕ) → 0 < t → contracts_at moves (t - 1) ≡ contracts_at moves t →
    force plan (t - 1) ≡ force plan t → instant_text plan moves t ≡ []
unfolding instant_text has_line stays_at
silent_at plan moves t some sums budgets =
    let x = margin_text t (contracts_at moves t) (force plan t) in
    let stays : (eqb (contracts_at moves (t - 1)) (contracts_at moves t) && eqb (force plan (t - 1)) (force plan t)) ≡ true =
    ap (λ b. b && eqb (force plan (t - 1)) (force plan t)) (eq-eqb _ _ sums) ∙ eq-eqb _ _ budgets in
    ap (λ b. cond (b || not (stays_at plan moves t)) x []) (ne_eqb t 0 (λ e. omega arith)) ∙ ap (λ b. cond (not b) x []) stays

-- the line of an instant, from what stands at its end and before it
line_by : (plan : Plan) (moves : Moves) (t : ℕ) (b : Bool) →
    line_after (cond b None (Some (standing_at plan moves (t - 1)))) t (standing_at plan moves t)
    ≡ cond (b || not (stays_at plan moves t)) (margin_text t (contracts_at moves t) (force plan t)) []
unfolding stays_at
line_by plan moves t true = refl
line_by plan moves t false = flipped (stays_at plan moves t) (margin_text t (contracts_at moves t) (force plan t))

line_is : (plan : Plan) (moves : Moves) (t c : ℕ) (o : Option Standing) → o ≡ standing_before plan moves t → c ≡ contracts_at moves t →
    line_after o t (standing c (force plan t)) ≡ instant_text plan moves t
unfolding instant_text has_line standing
line_is plan moves t c o before sums =
    ap (λ x. line_after o t (standing x (force plan t))) sums ∙ ap (λ x. line_after x t (standing_at plan moves t)) before
    ∙ line_by plan moves t (eqb t 0)

-- the sum at a time, from the powers after the entries up to it
sum_is : (moves : Moves) (i t : ℕ) (powers : List ℕ) → powers ≡ map (power_on (take i moves)) (range_with_len 1 most_ports) →
    NoChangeLater t (take i moves) → AllByRecursion (λ m. t < m.1.at) (drop i moves) →
    sum powers ≡ contracts_at moves t
unfolding contracts_at
sum_is moves i t powers e past ahead =
    ap sum
    (e ∙ same-table (power_on (take i moves)) (power_on (up_to t moves)) 1 most_ports (λ p. sym (powers_up_to moves i t p past ahead)))

-- the instant at which a walk stands has its line, once all later entries are later
last_line-is : (plan : Plan) (moves : Moves) (walk : Walk) → IsWalk plan moves walk →
    AllByRecursion (λ m. walk.at < m.1.at) (drop walk.seen moves) →
    line_after walk.before walk.at (standing_of walk) ≡ instant_text plan moves walk.at
unfolding standing
last_line-is plan moves walk w ahead =
    ap (λ b. line_after walk.before walk.at (standing (sum walk.powers) b)) w.knows.budget_is
    ∙ line_is plan moves walk.at (sum walk.powers) walk.before w.before_is
    (sum_is moves walk.seen walk.at walk.powers w.powers_are w.past ahead)

-- changes up to a time are up to a later one
changes-by : (t u : ℕ) (moves : Moves) → t ≤ u → NoChangeLater t moves → NoChangeLater u moves
changes-by t u moves le h = all-mono (ChangesBy t) (ChangesBy u) (λ m by some. let early = by some in omega arith) moves h

-- between the instant of a walk and the next entry no line stands while the budget stays
silent_between : (plan : Plan) (moves : Moves) (i a b : ℕ) → ((v : ℕ) → a < v → v < b → force plan (v - 1) ≡ force plan v) →
    NoChangeLater a (take i moves) →
    NoneBefore b (drop i moves) → (v : ℕ) → a < v → v < b → instant_text plan moves v ≡ []
silent_between plan moves i a b steady past ahead v low high =
    let powers : List ℕ = map (power_on (take i moves)) (range_with_len 1 most_ports) in
    let at_v =
    sum_is moves i v powers refl (changes-by a v (take i moves) (omega arith) past)
    (all-mono (λ (m : ℕ × Entry). b ≤ m.1.at) (λ m. v < m.1.at) (λ m h. omega arith) (drop i moves) ahead) in
    let before_v =
    sum_is moves i (v - 1) powers refl (changes-by a (v - 1) (take i moves) (omega arith) past)
    (all-mono (λ (m : ℕ × Entry). b ≤ m.1.at) (λ m. v - 1 < m.1.at) (λ m h. omega arith) (drop i moves) ahead) in
    silent_at plan moves v (omega arith) (sym before_v ∙ at_v) (steady v low high)

-- ---- a walk that goes on to a later instant, up to which nothing happens

module _ (plan : Plan) (moves : Moves) (walk : Walk) (at : ℕ) (w : IsWalk plan moves walk) (later : walk.at < at)
    (ahead : NoneBefore at (drop walk.seen moves)) (no_later : IfSome walk.next (λ n. at ≤ n)) where
  steady : (v : ℕ) → walk.at ≤ v → v < at → force plan v ≡ force plan walk.at
  steady v low high = force-stays plan walk.at v walk.next w.knows.next_is (below walk.next no_later) low
    where
      below : (o : Option ℕ) → IfSome o (λ n. at ≤ n) → IfSome o (λ n. v < n)
      below None h = tt
      below (Some n) h = omega arith

  same_budget : (v : ℕ) → walk.at < v → v < at → force plan (v - 1) ≡ force plan v
  same_budget v low high = steady (v - 1) (omega arith) (omega arith) ∙ sym (steady v (omega arith) high)

  all_later : AllByRecursion (λ x. walk.at < x.1.at) (drop walk.seen moves)
  all_later = all-mono (λ (x : ℕ × Entry). at ≤ x.1.at) (λ x. walk.at < x.1.at) (λ x h. omega arith) (drop walk.seen moves) ahead

  stood : Some (standing_of walk) ≡ standing_before plan moves at
  unfolding standing
  stood =
      let past = changes-by walk.at (at - 1) (take walk.seen moves) (omega arith) w.past in
      let more = all-mono (λ (x : ℕ × Entry). at ≤ x.1.at) (λ x. at - 1 < x.1.at) (λ x h. omega arith) (drop walk.seen moves) ahead in
      let sums = sum_is moves walk.seen (at - 1) walk.powers w.powers_are past more in
      let budgets : walk.budget ≡ force plan (at - 1) = w.knows.budget_is ∙ sym (steady (at - 1) (omega arith) (omega arith)) in
      ap (λ x. Some (standing x walk.budget)) sums ∙ ap (λ x. Some (standing (contracts_at moves (at - 1)) x)) budgets
      ∙ ap (λ b. cond b None (Some (standing_at plan moves (at - 1)))) (sym (ne_eqb at 0 (λ e. omega arith)))

  pub walk-on : (new : Walk) → at ≤ plan.end + 1 → GoesOnTo plan walk at new → IsWalk plan moves new
  walk-on new soon goes =
      let P : ℕ → ℕ → Type 0 = λ t k. NoChangeLater t (take k moves) in
      let A : ℕ → ℕ → Type 0 = λ t k. NoneBefore t (drop k moves) in
      let past : P at walk.seen = changes-by walk.at at (take walk.seen moves) (omega arith) w.past in
      record {
        powers_are =
            goes.powers_are ∙ w.powers_are ∙ ap (λ k. map (power_on (take k moves)) (range_with_len 1 most_ports)) (sym goes.seen_is);
        some_are_seen = omega (arith, goes.seen_is, w.some_are_seen);
        past = subst (λ t. P t new.seen) (sym goes.at_is) (subst (P at) (sym goes.seen_is) past);
        ahead = subst (λ t. A t new.seen) (sym goes.at_is) (subst (A at) (sym goes.seen_is) ahead);
        before_is = goes.before_is ∙ stood ∙ ap (standing_before plan moves) (sym goes.at_is);
        knows = goes.knows;
        in_time = omega (arith, goes.at_is);
      }

  -- what is left of the budget stays up to that instant
  pub margin-on : (v : ℕ) → walk.at ≤ v → v < at → margin_at plan moves v ≡ margin_of (standing_of walk)
  margin-on v low high =
      let past = changes-by walk.at v (take walk.seen moves) low w.past in
      let more = all-mono (λ (x : ℕ × Entry). at ≤ x.1.at) (λ x. v < x.1.at) (λ x h. omega arith) (drop walk.seen moves) ahead in
      let sums : sum walk.powers ≡ contracts_at moves v = sum_is moves walk.seen v walk.powers w.powers_are past more in
      let budgets : walk.budget ≡ force plan v = w.knows.budget_is ∙ sym (steady v low high) in
      sym (ap (λ x. walk.budget - x) sums ∙ ap (λ x. x - contracts_at moves v) budgets)

  -- what was written before that instant
  pub text-on : (new : Walk) → GoesOnTo plan walk at new →
      text_before plan moves new.at ≡ text_before plan moves walk.at ++ line_after walk.before walk.at (standing_of walk)
  text-on new goes =
      ap (text_before plan moves) goes.at_is
      ∙ text-to (instant_text plan moves) walk.at at later (silent_between plan moves walk.seen walk.at at same_budget w.past ahead)
      ∙ ap (λ v. text_before plan moves walk.at ++ v) (sym (last_line-is plan moves walk w all_later))

-- an instant fewer is left
pub less-on : (plan : Plan) (moves : Moves) (walk : Walk) (at : ℕ) (new : Walk) → walk.at ≤ plan.end → GoesOnTo plan walk at new →
    left_of plan moves new < left_of plan moves walk
less-on plan moves walk at new soon goes = omega (arith, goes.later, goes.at_is, goes.seen_is)

-- ---- a walk that sees one more entry

module _ (plan : Plan) (moves : Moves) (walk : Walk) (m : ℕ × Entry) (w : IsWalk plan moves walk)
    (here : slice_get moves walk.seen ≡ Some m) where
  seen_more : (powers : List ℕ) → powers ≡ map (power_on (take walk.seen moves ++ m ∷ [])) (range_with_len 1 most_ports) →
      ChangesBy walk.at m →
      IsWalk plan moves (record walk { seen = walk.seen + 1; powers = powers })
  seen_more powers are by = record {
    powers_are = are ∙ ap (λ (l : Moves). map (power_on l) (range_with_len 1 most_ports)) (sym (take-next moves walk.seen m here));
    some_are_seen = let within = slice_get_within moves walk.seen m here in omega arith;
    past = changes-by-next moves walk.seen m here walk.at by w.past;
    ahead = none-before-rest moves walk.seen m here walk.at w.ahead;
    before_is = w.before_is;
    knows = record {
      order_is = w.knows.order_is;
      stands = w.knows.stands;
      budget_is = w.knows.budget_is;
      next_is = w.knows.next_is;
    };
    in_time = w.in_time;
  }

  -- of its instant
  pub walk-noted : InOrder moves → m.1.at ≤ walk.at → IsWalk plan moves (noted_walk walk m.0 m.1.contract)
  walk-noted order now =
      let known = on-port moves walk.seen m here order in
      seen_more (noted walk.powers m.0 m.1.contract)
      (ap (λ l. noted l m.0 m.1.contract) w.powers_are
      ∙ powers-more (take walk.seen moves) m most_ports m.1.contract refl known.0 known.1)
      (λ some. now)

  -- that changes no contract
  pub walk-passed : ¬ Leaves Contract m → IsWalk plan moves (record walk { seen = walk.seen + 1 })
  walk-passed unchanged =
      seen_more walk.powers (w.powers_are ∙ powers-same (take walk.seen moves) m 1 most_ports (none_of m.1.contract unchanged))
      (λ some. absurd (unchanged some))

  pub less-noted : left_of plan moves (noted_walk walk m.0 m.1.contract) < left_of plan moves walk
  less-noted = let within = slice_get_within moves walk.seen m here in omega arith

-- entries that change no contract are passed
module _ (plan : Plan) (moves : Moves) (walk : Walk) where
  seen_by : ℕ → Walk
  seen_by k = record walk { seen = k }

  pub walk-passes : (to : ℕ) → walk.seen ≤ to → to ≤ length moves → NoneLeaves Contract moves walk.seen to → IsWalk plan moves walk →
      IsWalk plan moves (record walk { seen = to })
  unfolding seen_by
  walk-passes to up within none w = along (λ k. IsWalk plan moves (seen_by k)) walk.seen to up w step
    where
      step : (k : ℕ) → walk.seen ≤ k → k < to → IsWalk plan moves (seen_by k) → IsWalk plan moves (seen_by (k + 1))
      step k low high is =
          let m = at_index moves k (omega arith) in
          walk-passed plan moves (seen_by k) m.0 is m.1 (not_left Contract moves walk.seen to k m.0 none low high m.1)

-- ---- the start and the end

all_from-zero : (moves : Moves) → NoneBefore 0 moves
all_from-zero [] = tt
all_from-zero (m ∷ ms) = (omega arith, all_from-zero ms)

pub walk-start : (plan : Plan) (moves : Moves) (walk : Walk) → walk.seen ≡ 0 → walk.powers ≡ replicate most_ports 0 → walk.at ≡ 0 →
    walk.before ≡ None → KnowsBudget plan walk →
    IsWalk plan moves walk
walk-start plan moves walk seen powers at before knows =
    let P : ℕ → ℕ → Type 0 = λ t k. NoChangeLater t (take k moves) in
    let A : ℕ → ℕ → Type 0 = λ t k. NoneBefore t (drop k moves) in
    record {
      powers_are = powers ∙ powers-start 1 most_ports ∙ ap (λ k. map (power_on (take k moves)) (range_with_len 1 most_ports)) (sym seen);
      some_are_seen = omega (arith, seen);
      past = subst (P walk.at) (sym seen) tt;
      ahead = subst (A walk.at) (sym seen) (subst (λ t. A t 0) (sym at) (all_from-zero moves));
      before_is = before ∙ ap (standing_before plan moves) (sym at);
      knows = knows;
      in_time = omega (arith, at);
    }

-- once the walk is past the end, the text is whole
pub text-whole : (plan : Plan) (moves : Moves) (walk : Walk) → IsWalk plan moves walk → plan.end < walk.at →
    text_before plan moves (plan.end + 1) ≡ text_before plan moves walk.at
text-whole plan moves walk w past =
    let e : plan.end + 1 ≡ walk.at = omega (arith, w.in_time) in
    ap (text_before plan moves) e

-- what was written before an instant begins what is written before a later one
more_text : (f : ℕ → List ℕ) (a k : ℕ) → (rest : List ℕ) × (flat_map f (range_with_len 0 (a + k)) ≡ flat_map f (range_with_len 0 a) ++ rest)
more_text f a zero =
    let e : a + 0 ≡ a = omega arith in
    ([], ap (λ n. flat_map f (range_with_len 0 n)) e ∙ sym (append-nil (flat_map f (range_with_len 0 a))))
more_text f a (suc k) =
    let e : a + suc k ≡ suc (a + k) = omega arith in
    let r = more_text f a k in (
      r.0 ++ f (a + k),
      ap (λ n. flat_map f (range_with_len 0 n)) e ∙ text-next f (a + k) ∙ ap (λ v. v ++ f (a + k)) r.1
          ∙ append_assoc (flat_map f (range_with_len 0 a)) r.0 (f (a + k)),
    )

-- a line that was cut short
pub cut-line : (plan : Plan) (moves : Moves) (a b c : Option (List ℕ)) (t u : ℕ) (line : List ℕ) → u ≤ plan.end + 1 →
    text_before plan moves u ≡ text_before plan moves t ++ line →
    Appends a b (text_before plan moves t) → WrotePart b c line → WrotePart a c (text_before plan moves (plan.end + 1))
cut-line plan moves a b c t u line le e done part =
    let r = more_text (instant_text plan moves) u ((plan.end + 1) - u) in
    let n : u + ((plan.end + 1) - u) ≡ plan.end + 1 = omega arith in
    let whole : text_before plan moves (plan.end + 1) ≡ (text_before plan moves t ++ line) ++ r.0 =
    ap (text_before plan moves) (sym n) ∙ r.1 ∙ ap (λ v. v ++ r.0) e in
    rw whole
    (WrotePart-longer a c (text_before plan moves t ++ line) r.0 (WrotePart-after a b c (text_before plan moves t) line done part))

pub written-more : (plan : Plan) (moves : Moves) (a b c : Option (List ℕ)) (t u : ℕ) (line : List ℕ) →
    text_before plan moves u ≡ text_before plan moves t ++ line →
    Appends a b (text_before plan moves t) → Appends b c line → Appends a c (text_before plan moves u)
written-more plan moves a b c t u line e done more = rw e (Appends-trans a b c (text_before plan moves t) line done more)

-- a text that goes on
pub Writes-after : {T : Type 0} (a b c : Option (List ℕ)) (r : Result T BenchFault) (text more : List ℕ) → Appends a b text →
    Writes b c r more → Writes a c r (text ++ more)
Writes-after a b c (Ok x) text more first w = Appends-trans a b c text more first w
Writes-after a b c (Err fault) text more first w = (w.0, WrotePart-after a b c text more first w.1)
