-- Values that are looked for among those that came before.
use Rattle.std.proofs.Common.{◌≡◌, ℕ, ◌+◌, ◌-◌, ◌<◌, ◌≤◌, Bool, true, false, not, ◌||◌, ◌==◌, cond, List, [], ◌∷◌, ◌++◌, length}
use Rattle.std.proofs.Common.{take, drop, get_or, refl, sym, ap, ◌∙◌, arith, Bor, nat_cmp, Option, Some, nat_lt, decimal, codes}
use Rattle.std.specs.Prelude.{bytes_eq}
use Rattle.std.specs.List.{list_any, position_from}
use Rattle.std.specs.Ordering.{is_eq}
use Rattle.std.specs.declared.cmp.Ordering.TheVariants.{Equal}
use Rattle.std.specs.Cmp.Lexicographic.{slice_cmp}
use Rattle.std.specs.BTreeSet.{insert_key}
use Rattle.std.proofs.lemmas.Bool.{false≢true, or_parts}
use Rattle.std.proofs.lemmas.Bool.Decides.{nat_tests}
use Rattle.std.proofs.lemmas.List.{at_drop_more, length-take-le, take-append-drop}
use Rattle.std.proofs.lemmas.Map.Text.{is_eq-slice_cmp}
use Rattle.std.proofs.lemmas.Slice.Eq.{bytes_eq-Decides}
use Rattle.pd_misfits.specs.Spots.{SpotData}
use Rattle.pd_scenario_tables.specs.declared.schema.Key.{Key}
use Rattle.pd_scenario_tables.specs.declared.schema.Key.TheVariants as key
use Rattle.pd_scenario_text.specs.Names.{texts}
use Rattle.pd_scenario_text.proofs.Differing.{insert_has, list_any-last, list_any-same}
use Rattle.pd_misfits.specs.Values.{quoted}
use Rattle.pd_places.specs.FirstLines.{added}
use Rattle.pd_places.specs.Same.{first_id, first_name, same_id_part, same_name_part, same_part}
use Rattle.pd_places.proofs.FirstLines.{added_none}
use Rattle.pd_places.proofs.Found.{any_text, position_text}

-- ---- the first that passes a test

pub position_here : {V : Type 0} (p : V → Bool) (i : ℕ) (before rest : List V) (x : V) → list_any p before ≡ false → p x ≡ true
    → position_from p i (before ++ x ∷ rest) ≡ Some (i + length before)
position_here p i [] rest x none own = let same : i ≡ i + 0 = omega arith in rw own (ap (λ (n : ℕ). Some n) same)
position_here p i (y ∷ ys) rest x none own =
    let both = or_parts (p y) (list_any p ys) none in
    let same : (i + 1) + length ys ≡ i + length (y ∷ ys) = omega arith in
    rw both.0 (position_here p (i + 1) ys rest x both.1 own ∙ ap (λ (n : ℕ). Some n) same)

-- where none before an element passes, it is the first
first_of : {V : Type 0} (p : V → Bool) (all : List V) (i : ℕ) (d : V) → i < length all → p (get_or all i d) ≡ true
    → list_any p (take i all) ≡ false → position_from p 0 all ≡ Some i
first_of p all i d within own none =
    let split : all ≡ take i all ++ get_or all i d ∷ drop (i + 1) all =
    sym (take-append-drop i all) ∙ at_drop_more (λ ys. take i all ++ ys) all i d within in
    let long : 0 + length (take i all) ≡ i = omega (arith, length-take-le i all (omega (arith, within))) in
    ap (position_from p 0) split ∙ position_here p 0 (take i all) (drop (i + 1) all) (get_or all i d) none own
    ∙ ap (λ (n : ℕ). Some n) long

none_there : (b : Bool) → not b ≡ true → b ≡ false
none_there true h = absurd (false≢true h)
none_there false h = refl

-- ---- nothing is told of it

pub not_less : (a b : ℕ) → b ≤ a → nat_lt a b ≡ false
not_less a b h = grind (arith, nat_tests)

new_part : (spot : SpotData) (word : List ℕ) (k : Key) (value : List ℕ) (number : ℕ) (before : Option ℕ) → 1 ≤ number
    → before ≡ Some (number - 1)
    → same_part spot word k value number before ≡ []
new_part spot word k value number before one is = rw (is, not_less ((number - 1) + 1) number (omega (arith, one))) refl

none_if : (b : Bool) (xs : List ℕ) → xs ≡ [] → cond b xs [] ≡ []
none_if true xs is = is
none_if false xs is = refl

pub new_name : (told : List ℕ) (spot : SpotData) (word : List ℕ) (names : List (List ℕ)) (number : ℕ) (name : List ℕ) → 1 ≤ number
    → first_name names name ≡ Some (number - 1) → told ≡ added told (same_name_part spot word names number name)
new_name told spot word names number name one first =
    sym (ap (added told) (none_if (nat_lt 0 (length name)) _ (new_part spot word key.Name (quoted name) number _ one first))
    ∙ added_none told)

pub new_id : (told : List ℕ) (spot : SpotData) (ids : List ℕ) (number id : ℕ) → 1 ≤ number → first_id ids id ≡ Some (number - 1)
    → told ≡ added told (same_id_part spot ids number id)
new_id told spot ids number id one first =
    sym (ap (added told) (none_if (nat_lt 0 id) _ (new_part spot (codes "event") key.Id (decimal id) number _ one first))
    ∙ added_none told)

-- ---- names

-- the keys of a set are exactly these names
abbrev pub Has : List (List ℕ) → List (Bor (List ℕ)) → Type 0
Has names keys =
    (name : List ℕ) → list_any (λ (o : Bor (List ℕ)). bytes_eq name o.now) keys ≡ list_any (λ other. bytes_eq other name) names

own_text : (a : List ℕ) → bytes_eq a a ≡ true
own_text a = (bytes_eq-Decides a a).1 refl

-- the set of those before hasn't it
pub is_first_name : (names keys : List (Bor (List ℕ))) (i : ℕ) (d : Bor (List ℕ)) (is_new : Bool) → Has (texts (take i names)) keys
    → is_new ≡ not (list_any (λ (o : Bor (List ℕ)). is_eq (slice_cmp nat_cmp (get_or names i d).now o.now)) keys)
    → i < length names → is_new ≡ true → first_name (texts names) (get_or names i d).now ≡ Some i
is_first_name names keys i d is_new has is within new =
    let name = (get_or names i d).now in
    let there =
    list_any-same (λ (o : Bor (List ℕ)). is_eq (slice_cmp nat_cmp name o.now)) (λ (o : Bor (List ℕ)). bytes_eq name o.now)
    (λ o. is_eq-slice_cmp name o.now) keys ∙ has name ∙ sym (any_text name (take i names))
    in
    sym (position_text name 0 names)
    ∙ first_of (λ (o : Bor (List ℕ)). bytes_eq o.now name) names i d within (own_text name)
    (sym there ∙ none_there _ (sym is ∙ new))

-- ---- ids

abbrev pub HasIds : List ℕ → List ℕ → Type 0
HasIds ids keys = (id : ℕ) → list_any (λ o. is_eq (nat_cmp id o)) keys ≡ list_any (λ other. other == id) ids

equal_numbers : (id a b : ℕ) → nat_cmp a b ≡ Equal → is_eq (nat_cmp id a) ≡ is_eq (nat_cmp id b)
equal_numbers id a b h = grind (arith, nat_tests)

same_is_eq : (a b : ℕ) → is_eq (nat_cmp a b) ≡ (b == a)
same_is_eq a b = grind (arith, nat_tests)

commuted : (a b : Bool) → (a || b) ≡ (b || a)
commuted true true = refl
commuted true false = refl
commuted false true = refl
commuted false false = refl

pub one_more_id : (ids keys news : List ℕ) (k : ℕ) → HasIds ids keys → news ≡ insert_key nat_cmp keys k → HasIds (ids ++ k ∷ []) news
one_more_id ids keys news k has is id =
    rw (
      is,
      insert_has nat_cmp (λ o. is_eq (nat_cmp id o)) (λ a b h. equal_numbers id a b h) keys k,
      has id,
      list_any-last
          (λ (other : ℕ). other == id) ids k,
      same_is_eq id k,
    )
    (commuted (k == id) (list_any (λ other. other == id) ids))

own_number : (a : ℕ) → (a == a) ≡ true
own_number a = grind (arith, nat_tests)

pub is_first_id : (ids keys : List ℕ) (i d : ℕ) (is_new : Bool) → HasIds (take i ids) keys
    → is_new ≡ not (list_any (λ o. is_eq (nat_cmp (get_or ids i d) o)) keys) → i < length ids → is_new ≡ true
    → first_id ids (get_or ids i d) ≡ Some i
is_first_id ids keys i d is_new has is within new =
    let id = get_or ids i d in
    first_of (λ other. other == id) ids i d within (own_number id) (sym (has id) ∙ none_there _ (sym is ∙ new))
