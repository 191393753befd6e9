-- What a walk over the entries of a run knows of each instant.
use Rattle.std.proofs.Common.{◌≡◌, ◌≢◌, ℕ, zero, suc, ◌+◌, ◌-◌, ◌<◌, ◌≤◌, Bool, false, cond, leb, ⊎_elim, inl, inr, List, []}
use Rattle.std.proofs.Common.{◌∷◌, ◌++◌, length, map, take, drop, get_or, set, replicate, Option, Some, None, refl, sym, ap, subst, ◌∙◌}
use Rattle.std.proofs.Common.{arith, append_assoc}
use Rattle.std.specs.Prelude.{IsSome, filter, slice_get}
use Rattle.std.specs.List.{AllByRecursion, cons_option, flat_map, filter_map, last_or, range_with_len}
use Rattle.std.specs.Option.{option_map_or}
use Rattle.std.proofs.lemmas.Bool.{cases_eq, cases_lt, le-leb, lt-leb, eq-eqb, ne_eqb}
use Rattle.std.proofs.lemmas.List.{append-nil, drop_all, take-append-drop, drop_more, take_more, length-set, get_or-set_same}
use Rattle.std.proofs.lemmas.List.{get_or-set_other, same_lists}
use Rattle.std.proofs.lemmas.List.Concat.{flat_map-append}
use Rattle.std.proofs.lemmas.List.Elements.{filter-append, filter_map-append}
use Rattle.std.proofs.lemmas.List.FromFn.{get_or-map-range_with_len, length-map-range_with_len}
use Rattle.std.proofs.lemmas.Option.{get_or_from_slice_get, slice_get_cases, slice_get_within}
use Rattle.pd_port.specs.declared.entry.ContractChange.{ContractChange}
use Rattle.pd_port.specs.declared.entry.Entry.{Entry}
use Rattle.pd_port.specs.Port.{entry_of}
use Rattle.pd_scenario.specs.Plan.{Plan, count}
use Rattle.pd_run.specs.Order.{EachAfter}
use Rattle.pd_run.specs.Run.{Move, GoesOn, IsInOrder, shown}
use Rattle.pd_run.specs.Shown.{AreEntriesOf}
use Rattle.pd_run.proofs.Moves.{in_order-member}
use Rattle.pd_report.specs.Margins.{most_ports, power_left, change_on, power_on, up_to}
use Rattle.pd_report.specs.Walk.{noted, ChangesBy, NoChangeLater, NoneBefore}

-- ---- lists

abbrev pub Moves : Type 0
Moves = List (ℕ × Entry)

pub all-append : {X : Type 0} (P : X → Type 0) (xs ys : List X) → AllByRecursion P xs → AllByRecursion P ys → AllByRecursion P (xs ++ ys)
all-append P [] ys h k = k
all-append P (x ∷ xs) ys h k = (h.0, all-append P xs ys h.1 k)

pub all-mono : {X : Type 0} (P Q : X → Type 0) → ((x : X) → P x → Q x) → (xs : List X) → AllByRecursion P xs → AllByRecursion Q xs
all-mono P Q imp [] h = tt
all-mono P Q imp (x ∷ xs) h = (imp x h.0, all-mono P Q imp xs h.1)

pub all-drop : {X : Type 0} (P : X → Type 0) (xs : List X) (i : ℕ) → AllByRecursion P xs → AllByRecursion P (drop i xs)
all-drop P xs zero h = h
all-drop P [] (suc i) h = tt
all-drop P (x ∷ xs) (suc i) h = all-drop P xs i h.1

module _ {X : Type 0} (xs : List X) (i : ℕ) (x : X) (e : slice_get xs i ≡ Some x) where
  pub take-next : take (i + 1) xs ≡ take i xs ++ x ∷ []
  take-next =
      let within : i < length xs = slice_get_within xs i x e in
      take_more xs i x within ∙ ap (λ y. take i xs ++ y ∷ []) (get_or_from_slice_get xs i x x e)

  pub drop-next : drop i xs ≡ x ∷ drop (i + 1) xs
  drop-next =
      let within : i < length xs = slice_get_within xs i x e in
      drop_more xs i x within ∙ ap (λ y. y ∷ drop (i + 1) xs) (get_or_from_slice_get xs i x x e)

filter-none : {X : Type 0} (p : X → Bool) (xs : List X) → AllByRecursion (λ x. p x ≡ false) xs → filter p xs ≡ []
filter-none p [] h = refl
filter-none p (x ∷ xs) h = ap (λ b. cond b (x ∷ filter p xs) (filter p xs)) h.0 ∙ filter-none p xs h.1

last_or-append : {X : Type 0} (o : Option X) (xs : List X) (x : X) → last_or o (xs ++ x ∷ []) ≡ Some x
last_or-append o [] x = refl
last_or-append o (y ∷ ys) x = last_or-append (Some y) ys x

-- ---- the powers

unfoldable pub power_then : Option ContractChange → ℕ → ℕ
power_then None k = k
power_then (Some c) k = power_left c

pub change-then : (p : ℕ) (moves : Moves) (m : ℕ × Entry) (o : Option ContractChange) → change_on p m ≡ o →
    power_on (moves ++ m ∷ []) p ≡ power_then o (power_on moves p)
unfolding power_on power_then
change-then p moves m None e =
    ap (λ l. option_map_or power_left (last_or None l) 0)
    (filter_map-append (change_on p) moves (m ∷ [])
    ∙ ap (λ (o : Option ContractChange). filter_map (change_on p) moves ++ cons_option o []) e
    ∙ append-nil (filter_map (change_on p) moves))
change-then p moves m (Some c) e =
    ap (λ l. option_map_or power_left (last_or None l) 0)
    (filter_map-append (change_on p) moves (m ∷ [])
    ∙ ap (λ (o : Option ContractChange). filter_map (change_on p) moves ++ cons_option o []) e)
    ∙ ap (λ o. option_map_or power_left o 0) (last_or-append None (filter_map (change_on p) moves) c)

pub change_here : (p : ℕ) (m : ℕ × Entry) → m.0 ≡ p → change_on p m ≡ m.1.contract
change_here p m e = ap (λ b. cond b m.1.contract None) (eq-eqb m.0 p e)

pub change_other : (p : ℕ) (m : ℕ × Entry) → m.0 ≢ p → change_on p m ≡ None
change_other p m e = ap (λ b. cond b m.1.contract None) (ne_eqb m.0 p e)

no_change : (p : ℕ) (m : ℕ × Entry) → m.1.contract ≡ None → change_on p m ≡ None
no_change p m e = ⊎_elim (λ (same : m.0 ≡ p). change_here p m same ∙ e) (λ (other : m.0 ≢ p). change_other p m other) (cases_eq m.0 p)

pub none_of : (o : Option ContractChange) → ¬ IsSome o → o ≡ None
none_of None h = refl
none_of (Some c) h = absurd (h refl)

-- a table over the ports with one entry changed
set-table : (f g : ℕ → ℕ) (n p v : ℕ) → 1 ≤ p → p ≤ n → ((k : ℕ) → k ≢ p → g k ≡ f k) → g p ≡ v →
    set (map f (range_with_len 1 n)) (p - 1) v ≡ map g (range_with_len 1 n)
set-table f g n p v one lt others here =
    let fs = length-map-range_with_len f 1 n in
    let gs = length-map-range_with_len g 1 n in
    let xs : List ℕ = map f (range_with_len 1 n) in
    same_lists (set xs (p - 1) v) (map g (range_with_len 1 n)) (length-set xs (p - 1) v ∙ fs ∙ sym gs)
    (λ k d h.
    let kn : k < n = omega (arith, length-set xs (p - 1) v) in
    let at_g : get_or (map g (range_with_len 1 n)) k d ≡ g (k + 1) = get_or-map-range_with_len g 1 n k (k + 1) d kn (omega arith) in
    ⊎_elim
    (λ (same : k + 1 ≡ p).
    let place : k ≡ p - 1 = omega arith in
    let inside : p - 1 < length xs = omega arith in
    ap (λ i. get_or (set xs (p - 1) v) i d) place ∙ get_or-set_same xs (p - 1) v d inside ∙ sym here ∙ sym (at_g ∙ ap g same))
    (λ (other : k + 1 ≢ p).
    let place : k ≢ p - 1 = λ e. other (omega arith) in
    get_or-set_other xs (p - 1) k v d place ∙ get_or-map-range_with_len f 1 n k (k + 1) d kn (omega arith) ∙ sym (others (k + 1) other)
    ∙ sym at_g)
    (cases_eq (k + 1) p))

-- a table that is the same at each port
pub same-table : (f g : ℕ → ℕ) (a n : ℕ) → ((k : ℕ) → f k ≡ g k) → map f (range_with_len a n) ≡ map g (range_with_len a n)
same-table f g a zero h = refl
same-table f g a (suc n) h = ap (λ y. y ∷ map f (range_with_len (a + 1) n)) (h a) ∙ ap (λ v. g a ∷ v) (same-table f g (a + 1) n h)

pub powers-start : (a n : ℕ) → replicate n 0 ≡ map (power_on []) (range_with_len a n)
unfolding power_on
powers-start a zero = refl
powers-start a (suc n) = ap (λ v. 0 ∷ v) (powers-start (a + 1) n)

-- an entry that changes no contract changes no power
pub powers-same : (moves : Moves) (m : ℕ × Entry) (a n : ℕ) → m.1.contract ≡ None →
    map (power_on moves) (range_with_len a n) ≡ map (power_on (moves ++ m ∷ [])) (range_with_len a n)
unfolding power_then
powers-same moves m a n e =
    same-table (power_on moves) (power_on (moves ++ m ∷ [])) a n (λ k. sym (change-then k moves m None (no_change k m e)))

-- an entry changes the power of its own port alone
pub powers-more : (moves : Moves) (m : ℕ × Entry) (n : ℕ) (o : Option ContractChange) → m.1.contract ≡ o → 1 ≤ m.0 → m.0 ≤ n →
    noted (map (power_on moves) (range_with_len 1 n)) m.0 o ≡ map (power_on (moves ++ m ∷ [])) (range_with_len 1 n)
unfolding power_then
powers-more moves m n None e one lt = powers-same moves m 1 n e
powers-more moves m n (Some c) e one lt =
    set-table (power_on moves) (power_on (moves ++ m ∷ [])) n m.0 (power_left c) one lt
    (λ k other. change-then k moves m None (change_other k m (λ x. other (sym x))))
    (change-then m.0 moves m (Some c) (change_here m.0 m refl ∙ e))

-- ---- the entries up to a time

-- of entries whose changes are no later than a time, those up to it have all changes
changes_up_to : (t p : ℕ) (moves : Moves) → NoChangeLater t moves →
    filter_map (change_on p) (up_to t moves) ≡ filter_map (change_on p) moves
changes_up_to t p [] past = refl
changes_up_to t p (m ∷ ms) past =
    let rest = changes_up_to t p ms past.1 in
    let kept : Bool → Moves = λ b. cond b (m ∷ up_to t ms) (up_to t ms) in
    ⊎_elim
    (λ (late : t < m.1.at).
    let none : m.1.contract ≡ None = none_of m.1.contract (λ some. let early = past.0 some in omega arith) in
    ap (λ b. filter_map (change_on p) (kept b)) (lt-leb m.1.at t late) ∙ rest
    ∙ ap (λ o. cons_option o (filter_map (change_on p) ms)) (sym (no_change p m none)))
    (λ (soon : m.1.at ≤ t).
    ap (λ b. filter_map (change_on p) (kept b)) (le-leb m.1.at t soon) ∙ ap (cons_option (change_on p m)) rest)
    (cases_lt t m.1.at)

pub powers_up_to : (moves : Moves) (i t p : ℕ) → NoChangeLater t (take i moves) → AllByRecursion (λ m. t < m.1.at) (drop i moves) →
    power_on (up_to t moves) p ≡ power_on (take i moves) p
unfolding power_on
powers_up_to moves i t p past ahead =
    let up : ℕ × Entry → Bool = λ m. leb m.1.at t in
    let later =
    filter-none up (drop i moves)
    (all-mono (λ m. t < m.1.at) (λ m. up m ≡ false) (λ m h. lt-leb m.1.at t h) (drop i moves) ahead) in
    ap (λ l. option_map_or power_left (last_or None l) 0)
    (ap (λ (l : Moves). filter_map (change_on p) l)
    (ap (up_to t) (sym (take-append-drop i moves)) ∙ filter-append up (take i moves) (drop i moves)
    ∙ ap (λ v. up_to t (take i moves) ++ v) later ∙ append-nil (up_to t (take i moves)))
    ∙ changes_up_to t p (take i moves) past)

-- ---- the instants

range-more : (a n : ℕ) → range_with_len a (suc n) ≡ range_with_len a n ++ (a + n) ∷ []
range-more a zero = ap (λ v. v ∷ []) (omega arith)
range-more a (suc n) =
    let e : (a + 1) + n ≡ a + suc n = omega arith in
    ap (λ v. a ∷ v) (range-more (a + 1) n ∙ ap (λ k. range_with_len (a + 1) n ++ k ∷ []) e)

module _ (f : ℕ → List ℕ) where
  pub text-next : (n : ℕ) → flat_map f (range_with_len 0 (suc n)) ≡ flat_map f (range_with_len 0 n) ++ f n
  text-next n =
      let e : 0 + n ≡ n = omega arith in
      ap (flat_map f) (range-more 0 n ∙ ap (λ k. range_with_len 0 n ++ k ∷ []) e) ∙ flat_map-append f (range_with_len 0 n) (n ∷ [])
      ∙ ap (λ v. flat_map f (range_with_len 0 n) ++ v) (append-nil (f n))

  gap : (a k : ℕ) → ((v : ℕ) → a < v → v < suc a + k → f v ≡ []) →
      flat_map f (range_with_len 0 (suc a + k)) ≡ flat_map f (range_with_len 0 a) ++ f a
  gap a zero silent =
      let e : suc a + 0 ≡ suc a = omega arith in
      ap (λ n. flat_map f (range_with_len 0 n)) e ∙ text-next a
  gap a (suc k) silent =
      let e : suc a + suc k ≡ suc (suc a + k) = omega arith in
      ap (λ n. flat_map f (range_with_len 0 n)) e ∙ text-next (suc a + k)
      ∙ ap (λ v. flat_map f (range_with_len 0 (suc a + k)) ++ v) (silent (suc a + k) (omega arith) (omega arith))
      ∙ append-nil (flat_map f (range_with_len 0 (suc a + k))) ∙ gap a k (λ v h l. silent v h (omega arith))

  -- the instants up to a later one, of which those between add nothing
  pub text-to : (a b : ℕ) → a < b → ((v : ℕ) → a < v → v < b → f v ≡ []) →
      flat_map f (range_with_len 0 b) ≡ flat_map f (range_with_len 0 a) ++ f a
  text-to a b lt silent =
      let e : b ≡ suc a + (b - suc a) = omega arith in
      ap (λ n. flat_map f (range_with_len 0 n)) e ∙ gap a (b - suc a) (λ v h l. silent v h (omega arith))

-- ---- the entries of a run

-- each entry is no later than those after it
unfoldable pub Rising : Moves → Type 0
Rising [] = Unit {0}
Rising (m ∷ ms) = NoneBefore m.1.at ms × Rising ms

-- an entry is on a port that there may be
abbrev pub OnPort : ℕ × Entry → Type 0
OnPort m = (1 ≤ m.0) × (m.0 ≤ most_ports)

pub record InOrder (moves : Moves) : Type 0 where
  pub rising : Rising moves
  pub on_ports : AllByRecursion OnPort moves

pub at-due : (plan : Plan) (past : List Move) (m : Move) → GoesOn plan past m → m.entry.at ≡ m.due.time
unfolding entry_of
at-due plan past m h = ap (λ (e : Entry). e.at) h.entry_is

shifted : {X : Type 0} (P : List X → X → Type 0) (a b : List X) (x : X) (rest : List X) → EachAfter P ((a ++ b) ++ x ∷ []) rest →
    EachAfter P (a ++ (b ++ x ∷ [])) rest
shifted {X} P a b x rest h = subst (λ (l : List X). EachAfter P l rest) (append_assoc a b (x ∷ [])) h

none-before : (plan : Plan) (past more : List Move) (x : Move) (ms : List Move) → EachAfter (GoesOn plan) ((past ++ x ∷ []) ++ more) ms →
    EachAfter IsInOrder ((past ++ x ∷ []) ++ more) ms →
    NoneBefore x.due.time (map shown ms)
none-before plan past more x [] chained ordered = tt
none-before plan past more x (m ∷ ms) chained ordered =
    let later = in_order-member past more x m ordered.0 in
    let e = at-due plan ((past ++ x ∷ []) ++ more) m chained.0 in (
      omega (arith, later.by_time, e),
      none-before plan past (more ++ m ∷ []) x ms (shifted (GoesOn plan) (past ++ x ∷ []) more m ms chained.1)
          (shifted IsInOrder (past ++ x ∷ []) more m ms ordered.1),
    )

rises : (plan : Plan) (past ms : List Move) → EachAfter (GoesOn plan) past ms → EachAfter IsInOrder past ms → Rising (map shown ms)
unfolding Rising
rises plan past [] chained ordered = tt
rises plan past (m ∷ ms) chained ordered =
    let e = at-due plan past m chained.0 in
    let none : List Move → Type 0 = λ l. EachAfter (GoesOn plan) l ms in
    let order : List Move → Type 0 = λ l. EachAfter IsInOrder l ms in (
      subst (λ t. NoneBefore t (map shown ms)) (sym e)
          (none-before plan past [] m ms (subst none (sym (append-nil (past ++ m ∷ []))) chained.1)
          (subst order (sym (append-nil (past ++ m ∷ []))) ordered.1)),
      rises plan (past ++ m ∷ []) ms chained.1 ordered.1,
    )

all-on_ports : (plan : Plan) (past ms : List Move) → count plan ≤ most_ports → EachAfter (GoesOn plan) past ms →
    AllByRecursion OnPort (map shown ms)
all-on_ports plan past [] few chained = tt
all-on_ports plan past (m ∷ ms) few chained =
    let k = chained.0.known in
    ((omega arith, omega arith), all-on_ports plan (past ++ m ∷ []) ms few chained.1)

-- so are the entries of each run
pub in-order : (n : ℕ) (plan : Option Plan) (moves : Moves) → AreEntriesOf n plan moves → InOrder moves
unfolding Rising
in-order n None moves none = subst InOrder (sym none) (record { rising = tt; on_ports = tt })
in-order n (Some plan) moves s =
    let run = s.shows.safe.run in
    subst InOrder (sym s.shows.entries_are) (record {
      rising = rises plan [] s.shows.moves run.chained run.ordered;
      on_ports = all-on_ports plan [] s.shows.moves (omega (arith, s.is_plan.settings_count, s.is_plan.few_ports)) run.chained;
    })

rising-drop : (moves : Moves) (i : ℕ) → Rising moves → Rising (drop i moves)
unfolding Rising
rising-drop moves zero h = h
rising-drop [] (suc i) h = tt
rising-drop (m ∷ ms) (suc i) h = rising-drop ms i h.1

module _ (moves : Moves) (i : ℕ) (m : ℕ × Entry) (e : slice_get moves i ≡ Some m) where
  pub on-port : InOrder moves → OnPort m
  on-port h = (subst (AllByRecursion OnPort) (drop-next moves i m e) (all-drop OnPort moves i h.on_ports)).0

  none-before-next : InOrder moves → NoneBefore m.1.at (drop (i + 1) moves)
  unfolding Rising
  none-before-next h = (subst Rising (drop-next moves i m e) (rising-drop moves i h.rising)).0

  pub none-before-rest : (t : ℕ) → NoneBefore t (drop i moves) → NoneBefore t (drop (i + 1) moves)
  none-before-rest t h = (subst (NoneBefore t) (drop-next moves i m e) h).1

  -- where an entry is no sooner than a time, none from it on is
  pub none-before-here : (t : ℕ) → t ≤ m.1.at → InOrder moves → NoneBefore t (drop i moves)
  none-before-here t le h =
      let more =
      all-mono (λ (x : ℕ × Entry). m.1.at ≤ x.1.at) (λ x. t ≤ x.1.at) (λ x k. omega arith) (drop (i + 1) moves) (none-before-next h) in
      subst (NoneBefore t) (sym (drop-next moves i m e)) (le, more)

  pub changes-by-next : (t : ℕ) → ChangesBy t m → NoChangeLater t (take i moves) → NoChangeLater t (take (i + 1) moves)
  changes-by-next t by h =
      subst (NoChangeLater t) (sym (take-next moves i m e)) (all-append (ChangesBy t) (take i moves) (m ∷ []) h (by, tt))

-- after the last entry there is none
pub none-after : (moves : Moves) (i t : ℕ) → slice_get moves i ≡ None → NoneBefore t (drop i moves)
none-after moves i t e =
    elim (slice_get_cases moves i).1 [
      | inl h ↦ let k : None ≡ Some h.0 = sym e ∙ h.2 in cc
      | inr h ↦ subst (NoneBefore t) (sym (drop_all i moves h.0)) tt
    ]

-- none from an index on is before a time, where the entry there isn't
pub none-before-some : (n : ℕ) (plan : Option Plan) (moves : Moves) (i t : ℕ) (m : ℕ × Entry) → slice_get moves i ≡ Some m → t ≤ m.1.at →
    AreEntriesOf n plan moves → NoneBefore t (drop i moves)
none-before-some n plan moves i t m here le are = none-before-here moves i m here t le (in-order n plan moves are)

pub none-before-less : (t u : ℕ) (moves : Moves) → t ≤ u → NoneBefore u moves → NoneBefore t moves
none-before-less t u moves le h = all-mono (λ (m : ℕ × Entry). u ≤ m.1.at) (λ m. t ≤ m.1.at) (λ m k. omega arith) moves h
