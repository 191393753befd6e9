-- Counting instants: a stretch at which something is so throughout, or isn't.
use Rattle.std.proofs.Common.{◌≡◌, ℕ, zero, suc, ◌+◌, ◌-◌, ◌<◌, ◌≤◌, Bool, true, false, cond, List, [], ◌∷◌, ◌++◌, Option, Some, None}
use Rattle.std.proofs.Common.{refl, sym, ap, ◌∙◌, zero-add, add-zero, arith}
use Rattle.std.specs.Prelude.{◌&&◌, count_by, nat_lt}
use Rattle.std.specs.List.{cons_option, filter_map, last_or, range_with_len}
use Rattle.std.proofs.lemmas.Bool.Decides.{nat_tests}
use Rattle.std.proofs.lemmas.List.Elements.{filter_map-append}
use Rattle.std.proofs.lemmas.List.FromFn.{length-range_with_len}
use Rattle.std.proofs.lemmas.List.Sums.{count_by-le-length, sum_by-append, sum_by-cons}
use Rattle.pd_sweep.specs.Beside.{longer}
use Rattle.pd_sweep.specs.Measures.{instants, last_until}

range-split : (s a n : ℕ) → range_with_len s (a + n) ≡ range_with_len s a ++ range_with_len (s + a) n
range-split s zero n =
    let e : s ≡ s + 0 = omega arith in
    ap (range_with_len s) (zero-add n) ∙ ap (λ k. range_with_len k n) e
range-split s (suc a) n =
    let e : suc a + n ≡ suc (a + n) = omega arith in
    let f : (s + 1) + a ≡ s + suc a = omega arith in
    ap (range_with_len s) e
    ∙ ap (λ l. s ∷ l) (range-split (s + 1) a n ∙ ap (λ k. range_with_len (s + 1) a ++ range_with_len k n) f)

-- from 0 up to one number, and then up to another
from_zero : (a c : ℕ) → a ≤ c → range_with_len 0 c ≡ range_with_len 0 a ++ range_with_len a (c - a)
from_zero a c le =
    let e : c ≡ a + (c - a) = omega arith in
    ap (range_with_len 0) e ∙ range-split 0 a (c - a) ∙ ap (λ k. range_with_len 0 a ++ range_with_len k (c - a)) (zero-add a)

-- ---- how many there are

abbrev one_if : (ℕ → Bool) → ℕ → ℕ
one_if p t = cond (p t) 1 0

none_if : (b : Bool) (n : ℕ) → n ≡ cond b n n
none_if true n = refl
none_if false n = refl

one_more_if : (b : Bool) (n : ℕ) → cond b 1 0 + cond b n 0 ≡ cond b (suc n) 0
one_more_if true n = omega arith
one_more_if false n = refl

count-stretch : (p : ℕ → Bool) (b : Bool) (a n : ℕ) → ((t : ℕ) → a ≤ t → t < a + n → p t ≡ b)
    → count_by p (range_with_len a n) ≡ cond b n 0
count-stretch p b a zero so = none_if b 0
count-stretch p b a (suc n) so =
    let here : p a ≡ b = so a (omega arith) (omega arith) in
    let rest : count_by p (range_with_len (a + 1) n) ≡ cond b n 0 =
    count-stretch p b (a + 1) n (λ t low high. so t (omega arith) (omega arith)) in
    sum_by-cons (one_if p) a (range_with_len (a + 1) n)
    ∙ ap (λ c. cond c 1 0 + count_by p (range_with_len (a + 1) n)) here ∙ ap (λ k. cond b 1 0 + k) rest ∙ one_more_if b n

count-same : (p q : ℕ → Bool) (a n : ℕ) → ((t : ℕ) → a ≤ t → t < a + n → p t ≡ q t)
    → count_by p (range_with_len a n) ≡ count_by q (range_with_len a n)
count-same p q a zero so = refl
count-same p q a (suc n) so =
    let here : p a ≡ q a = so a (omega arith) (omega arith) in
    let rest : count_by p (range_with_len (a + 1) n) ≡ count_by q (range_with_len (a + 1) n) =
    count-same p q (a + 1) n (λ t low high. so t (omega arith) (omega arith)) in
    sum_by-cons (one_if p) a (range_with_len (a + 1) n)
    ∙ ap (λ c. cond c 1 0 + count_by p (range_with_len (a + 1) n)) here ∙ ap (λ k. cond (q a) 1 0 + k) rest
    ∙ sym (sum_by-cons (one_if q) a (range_with_len (a + 1) n))

longer_if : (b : Bool) (k a c : ℕ) → k + cond b (c - a) 0 ≡ longer b k a c
longer_if true k a c = refl
longer_if false k a c = add-zero k

pub instants-more : (p : ℕ → Bool) (b : Bool) (a c : ℕ) → a ≤ c → ((t : ℕ) → a ≤ t → t < c → p t ≡ b)
    → instants c p ≡ longer b (instants a p) a c
instants-more p b a c le so =
    ap (count_by p) (from_zero a c le) ∙ sum_by-append (one_if p) (range_with_len 0 a) (range_with_len a (c - a))
    ∙ ap (λ k. instants a p + k) (count-stretch p b a (c - a) (λ t low high. so t low (omega arith)))
    ∙ longer_if b (instants a p) a c

pub instants-same : (p q : ℕ → Bool) (c : ℕ) → ((t : ℕ) → t < c → p t ≡ q t) → instants c p ≡ instants c q
instants-same p q c so = count-same p q 0 c (λ t low high. so t (omega arith))

pub instants-few : (p : ℕ → Bool) (c : ℕ) → instants c p ≤ c
instants-few p c = omega (arith, count_by-le-length p (range_with_len 0 c), length-range_with_len 0 c)

-- ---- up to which

abbrev end_of : (ℕ → Bool) → ℕ → Option ℕ
end_of p t = cond (p t) (Some (t + 1)) None

last_or-append : (o : Option ℕ) (xs ys : List ℕ) → last_or o (xs ++ ys) ≡ last_or (last_or o xs) ys
last_or-append o [] ys = refl
last_or-append o (x ∷ xs) ys = last_or-append (Some x) xs ys

ends-none : (p : ℕ → Bool) (a n : ℕ) → ((t : ℕ) → a ≤ t → t < a + n → p t ≡ false) → filter_map (end_of p) (range_with_len a n) ≡ []
ends-none p a zero so = refl
ends-none p a (suc n) so =
    let here : p a ≡ false = so a (omega arith) (omega arith) in
    ap (λ c. cons_option (cond c (Some (a + 1)) None) (filter_map (end_of p) (range_with_len (a + 1) n))) here
    ∙ ends-none p (a + 1) n (λ t low high. so t (omega arith) (omega arith))

ends-all : (p : ℕ → Bool) (o : Option ℕ) (a n : ℕ) → ((t : ℕ) → a ≤ t → t < a + suc n → p t ≡ true)
    → last_or o (filter_map (end_of p) (range_with_len a (suc n))) ≡ Some (a + suc n)
ends-all p o a zero so =
    let here : p a ≡ true = so a (omega arith) (omega arith) in
    let e : a + 1 ≡ a + suc 0 = omega arith in
    ap (λ c. last_or o (cons_option (cond c (Some (a + 1)) None) [])) here ∙ ap (λ k. Some k) e
ends-all p o a (suc n) so =
    let here : p a ≡ true = so a (omega arith) (omega arith) in
    let rest : List ℕ = filter_map (end_of p) (range_with_len (a + 1) (suc n)) in
    let e : (a + 1) + suc n ≡ a + suc (suc n) = omega arith in
    ap (λ c. last_or o (cons_option (cond c (Some (a + 1)) None) rest)) here
    ∙ ends-all p (Some (a + 1)) (a + 1) n (λ t low high. so t (omega arith) (omega arith)) ∙ ap (λ k. Some k) e

ends-same : (p q : ℕ → Bool) (a n : ℕ) → ((t : ℕ) → a ≤ t → t < a + n → p t ≡ q t)
    → filter_map (end_of p) (range_with_len a n) ≡ filter_map (end_of q) (range_with_len a n)
ends-same p q a zero so = refl
ends-same p q a (suc n) so =
    let here : p a ≡ q a = so a (omega arith) (omega arith) in
    ap (λ c. cons_option (cond c (Some (a + 1)) None) (filter_map (end_of p) (range_with_len (a + 1) n))) here
    ∙ ap (λ l. cons_option (end_of q a) l) (ends-same p q (a + 1) n (λ t low high. so t (omega arith) (omega arith)))

and_false : (b : Bool) → (b && false) ≡ false
and_false true = refl
and_false false = refl

ends-stretch : (p : ℕ → Bool) (b : Bool) (o : Option ℕ) (a n : ℕ) → ((t : ℕ) → a ≤ t → t < a + n → p t ≡ b)
    → last_or o (filter_map (end_of p) (range_with_len a n)) ≡ cond (nat_lt 0 n && b) (Some (a + n)) o
ends-stretch p b o a zero so = refl
ends-stretch p true o a (suc n) so =
    let some : nat_lt 0 (suc n) ≡ true = grind (arith, nat_tests) in
    ends-all p o a n so ∙ sym (ap (λ d. cond (d && true) (Some (a + suc n)) o) some)
ends-stretch p false o a (suc n) so =
    ap (last_or o) (ends-none p a (suc n) so) ∙ sym (ap (λ d. cond d (Some (a + suc n)) o) (and_false (nat_lt 0 (suc n))))

pub last_until-more : (p : ℕ → Bool) (b : Bool) (a c : ℕ) → a ≤ c → ((t : ℕ) → a ≤ t → t < c → p t ≡ b)
    → last_until c p ≡ cond (nat_lt a c && b) (Some c) (last_until a p)
last_until-more p b a c le so =
    let whole : a + (c - a) ≡ c = omega arith in
    let test : nat_lt 0 (c - a) ≡ nat_lt a c = grind (arith, nat_tests) in
    ap (λ l. last_or None (filter_map (end_of p) l)) (from_zero a c le)
    ∙ ap (last_or None) (filter_map-append (end_of p) (range_with_len 0 a) (range_with_len a (c - a)))
    ∙ last_or-append None (filter_map (end_of p) (range_with_len 0 a)) (filter_map (end_of p) (range_with_len a (c - a)))
    ∙ ends-stretch p b (last_until a p) a (c - a) (λ t low high. so t low (omega arith))
    ∙ ap (λ d. cond (d && b) (Some (a + (c - a))) (last_until a p)) test
    ∙ ap (λ k. cond (nat_lt a c && b) (Some k) (last_until a p)) whole

pub last_until-same : (p q : ℕ → Bool) (c : ℕ) → ((t : ℕ) → t < c → p t ≡ q t) → last_until c p ≡ last_until c q
last_until-same p q c so = ap (last_or None) (ends-same p q 0 c (λ t low high. so t (omega arith)))
