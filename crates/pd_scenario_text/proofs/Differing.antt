-- Values that differ, found by a set of those that came before.
use Rattle.std.proofs.Common.{◌≡◌, Bool, true, false, not, ◌||◌, ◌&&◌, List, [], ◌∷◌, ◌++◌, refl, sym, ap, ◌∙◌, inl, inr}
use Rattle.std.specs.Bool.{Decides}
use Rattle.std.specs.List.{list_any}
use Rattle.std.specs.Ordering.{match_ordering}
use Rattle.std.specs.declared.cmp.Ordering.{Ordering}
use Rattle.std.specs.declared.cmp.Ordering.TheVariants.{Less, Equal, Greater}
use Rattle.std.specs.BTreeSet.{insert_key}
use Rattle.std.proofs.lemmas.Bool.{false≢true, and_cases, or_cases, or_left, or_right}
use Rattle.std.proofs.lemmas.Bool.Decides.{same_from_decides, Decides-like}

-- ---- some element passes

last : (a : Bool) → (a || false) ≡ (false || a)
last true = refl
last false = refl

grouped : (a b c : Bool) → (a || (b || c)) ≡ ((a || b) || c)
grouped true b c = refl
grouped false b c = refl

never : (a : Bool) → (a && false) ≡ false
never true = refl
never false = refl

turned : (a : Bool) → not a ≡ false → a ≡ true
turned true h = refl
turned false h = absurd (false≢true (sym h))

pub list_any-last : {X : Type 0} (p : X → Bool) (xs : List X) (x : X) → list_any p (xs ++ x ∷ []) ≡ (list_any p xs || p x)
list_any-last p [] x = last (p x)
list_any-last p (y ∷ ys) x = ap (λ b. p y || b) (list_any-last p ys x) ∙ grouped (p y) (list_any p ys) (p x)

pub list_any-first : {X : Type 0} (p : X → Bool) (xs ys : List X) → list_any p xs ≡ true → list_any p (xs ++ ys) ≡ true
list_any-first p [] ys h = absurd (false≢true h)
list_any-first p (x ∷ xs) ys h =
    elim (or_cases (p x) (list_any p xs) h) [
      | inl here ↦ or_left (p x) (list_any p (xs ++ ys)) here
      | inr later ↦ or_right (p x) (list_any p (xs ++ ys)) (list_any-first p xs ys later)
    ]

pub list_any-same : {X : Type 0} (p q : X → Bool) → ((x : X) → p x ≡ q x) → (xs : List X) → list_any p xs ≡ list_any q xs
list_any-same p q agree [] = refl
list_any-same p q agree (x ∷ xs) = rw (agree x, list_any-same p q agree xs)

-- ---- values that differ

module _ {V : Type 0} (eq : V → V → Bool) where
  abbrev pub differ : List V → Bool
  differ [] = true
  differ (x ∷ xs) = not (list_any (λ other. eq other x) xs) && differ xs

shuffled : (l d m e : Bool) → (not (l || e) && (d && not m)) ≡ ((not l && d) && not (e || m))
shuffled true d m e = refl
shuffled false true m true = refl
shuffled false false m true = refl
shuffled false true m false = refl
shuffled false false m false = refl

pub differ-part : {V : Type 0} (eq : V → V → Bool) (xs ys : List V) → differ eq xs ≡ false → differ eq (xs ++ ys) ≡ false
differ-part eq [] ys h = absurd (false≢true (sym h))
differ-part eq (x ∷ xs) ys h =
    elim (and_cases (not (list_any (λ other. eq other x) xs)) (differ eq xs) h) [
      | inl repeated ↦ rw (list_any-first (λ other. eq other x) xs ys (turned _ repeated))
      | inr later ↦ rw (differ-part eq xs ys later) (never (not (list_any (λ other. eq other x) (xs ++ ys))))
    ]

pub differ-last : {V : Type 0} (eq : V → V → Bool) → ((a b : V) → eq a b ≡ eq b a) → (xs : List V) (x : V)
    → differ eq (xs ++ x ∷ []) ≡ (differ eq xs && not (list_any (λ other. eq other x) xs))
differ-last eq turn [] x = refl
differ-last eq turn (y ∷ ys) x =
    rw (list_any-last (λ other. eq other y) ys x, differ-last eq turn ys x, turn x y)
    (shuffled (list_any (λ other. eq other y) ys) (differ eq ys) (list_any (λ other. eq other x) ys) (eq y x))

pub turn_from : {V : Type 0} (eq : V → V → Bool) → ((a b : V) → Decides (eq a b) (a ≡ b)) → (a b : V) → eq a b ≡ eq b a
turn_from eq decides a b = same_from_decides (eq a b) (eq b a) (decides a b) (Decides-like (eq b a) sym sym (decides b a))

-- ---- a set with one more value

exchanged : (a b c : Bool) → (a || (b || c)) ≡ (b || (a || c))
exchanged true true c = refl
exchanged true false c = refl
exchanged false b c = refl

twice : (a b : Bool) → (a || b) ≡ (a || (a || b))
twice true b = refl
twice false b = refl

insert_by : {K : Type 0} (p : K → Bool) (x : K) (xs : List K) (k : K) (rest : List K) (o : Ordering) → (o ≡ Equal → p k ≡ p x)
    → list_any p rest ≡ (p k || list_any p xs)
    → list_any p (match_ordering o (k ∷ x ∷ xs) (x ∷ xs) (x ∷ rest)) ≡ (p k || list_any p (x ∷ xs))
insert_by p x xs k rest Less alike more = refl
insert_by p x xs k rest Equal alike more = rw (alike refl) (twice (p x) (list_any p xs))
insert_by p x xs k rest Greater alike more = ap (λ b. p x || b) more ∙ exchanged (p x) (p k) (list_any p xs)

pub insert_has : {K : Type 0} (cmp : K → K → Ordering) (p : K → Bool) → ((k x : K) → cmp k x ≡ Equal → p k ≡ p x) → (keys : List K) (k : K)
    → list_any p (insert_key cmp keys k) ≡ (p k || list_any p keys)
insert_has cmp p alike [] k = refl
insert_has cmp p alike (x ∷ xs) k = insert_by p x xs k (insert_key cmp xs k) (cmp k x) (alike k x) (insert_has cmp p alike xs k)
