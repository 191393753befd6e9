-- The supply that a sink asks for.
use Rattle.std.proofs.Common.{◌≡◌, ◌⊎◌, inl, inr, ℕ, ◌<◌, ◌≤◌, nat_lt, nat_le, ◌==◌, Bool, true, false, ◌&&◌, ◌||◌, if◌then◌else◌, List, []}
use Rattle.std.proofs.Common.{◌∷◌, ◌++◌, Option, Some, None, refl, sym, subst, append_assoc, arith}
use Rattle.std.specs.Option.{MatchOption}
use Rattle.std.specs.List.{All}
use Rattle.std.proofs.lemmas.Bool.Decides.{nat_tests}
use Rattle.std.proofs.lemmas.List.{append-nil}
use Rattle.std.proofs.lemmas.List.Elements.{All-nil, All-push, All-same, All-weaker, Contains-append_left, Contains-push}
use Rattle.pd_sink.specs.declared.rule.Offered.{Offered}
use Rattle.pd_sink.specs.Rule.{need_of, power_of, IsFitting, IsGreatest}
use Rattle.pd_sink.specs.Choice.{is_enough, is_greater, higher_of, fitting_from, greater_of, greatest_from}

abbrev pub Falls : ℕ → Offered → Type 0
Falls demand_mw o = o.ma < need_of o.mv demand_mw

-- what was found among the supplies that were seen
abbrev Found : ℕ → List Offered → Option Offered → Type 0
Found demand_mw seen best = MatchOption best (All (Falls demand_mw) seen) (IsFitting demand_mw seen)

found-short : (d : ℕ) (seen : List Offered) (best : Option Offered) (o : Offered) → Falls d o → Found d seen best →
    Found d (seen ++ o ∷ []) best
found-short d seen None o k h = All-push (Falls d) seen o h k
found-short d seen (Some b) o k h =
    record {
      offered = Contains-append_left seen (o ∷ []) b h.offered;
      enough = h.enough;
      highest = All-push (λ (x : Offered). need_of x.mv d ≤ x.ma → x.mv ≤ b.mv) seen o h.highest
          (λ (e : need_of o.mv d ≤ o.ma). absurd (omega arith));
    }

found-first : (d : ℕ) (seen : List Offered) (o : Offered) → need_of o.mv d ≤ o.ma → All (Falls d) seen → IsFitting d (seen ++ o ∷ []) o
found-first d seen o k h =
    record {
      offered = Contains-push seen o;
      enough = k;
      highest =
          All-push (λ (x : Offered). need_of x.mv d ≤ x.ma → x.mv ≤ o.mv) seen o
          (All-weaker (Falls d) (λ (x : Offered). need_of x.mv d ≤ x.ma →
          x.mv ≤ o.mv) (λ (x : Offered) (s : Falls d x) (e : need_of x.mv d ≤ x.ma). absurd (omega arith)) seen h)
          (λ (e : need_of o.mv d ≤ o.ma). omega arith);
    }

found-higher : (d : ℕ) (seen : List Offered) (b o : Offered) → need_of o.mv d ≤ o.ma → b.mv < o.mv → IsFitting d seen b →
    IsFitting d (seen ++ o ∷ []) o
found-higher d seen b o k l h =
    record {
      offered = Contains-push seen o;
      enough = k;
      highest =
          All-push (λ (x : Offered). need_of x.mv d ≤ x.ma → x.mv ≤ o.mv) seen o
          (All-weaker (λ (x : Offered). need_of x.mv d ≤ x.ma → x.mv ≤ b.mv) (λ (x : Offered). need_of x.mv d ≤ x.ma →
          x.mv ≤ o.mv) (λ (x : Offered) (f : need_of x.mv d ≤ x.ma → x.mv ≤ b.mv) (e : need_of x.mv d ≤ x.ma). let m = f e in
          omega arith) seen h.highest)
          (λ (e : need_of o.mv d ≤ o.ma). omega arith);
    }

found-lower : (d : ℕ) (seen : List Offered) (b o : Offered) → o.mv ≤ b.mv → IsFitting d seen b → IsFitting d (seen ++ o ∷ []) b
found-lower d seen b o l h =
    record {
      offered = Contains-append_left seen (o ∷ []) b h.offered;
      enough = h.enough;
      highest = All-push (λ (x : Offered). need_of x.mv d ≤ x.ma → x.mv ≤ b.mv) seen o h.highest (λ (e : need_of o.mv d ≤ o.ma). l);
    }

pub lt-true : (m n : ℕ) → nat_lt m n ≡ true → m < n
lt-true m n h = grind (arith, nat_tests)

lt-false : (m n : ℕ) → nat_lt m n ≡ false → n ≤ m
lt-false m n h = grind (arith, nat_tests)

pub le-true : (m n : ℕ) → nat_le m n ≡ true → m ≤ n
le-true m n h = grind (arith, nat_tests)

le-false : (m n : ℕ) → nat_le m n ≡ false → n < m
le-false m n h = grind (arith, nat_tests)

found-both : (d : ℕ) (seen : List Offered) (b o : Offered) (t : Bool) → nat_lt b.mv o.mv ≡ t → need_of o.mv d ≤ o.ma → IsFitting d seen b →
    Found d (seen ++ o ∷ []) (if t then Some o else Some b)
found-both d seen b o true e k h = found-higher d seen b o k (lt-true b.mv o.mv e) h
found-both d seen b o false e k h = found-lower d seen b o (lt-false b.mv o.mv e) h

found-enough : (d : ℕ) (seen : List Offered) (best : Option Offered) (o : Offered) → need_of o.mv d ≤ o.ma → Found d seen best →
    Found d (seen ++ o ∷ []) (higher_of best o)
found-enough d seen None o k h = found-first d seen o k h
found-enough d seen (Some b) o k h = found-both d seen b o (nat_lt b.mv o.mv) refl k h

found-one : (d : ℕ) (seen : List Offered) (best : Option Offered) (o : Offered) (t : Bool) → is_enough d o ≡ t → Found d seen best →
    Found d (seen ++ o ∷ []) (if t then higher_of best o else best)
found-one d seen best o true e h = found-enough d seen best o (le-true (need_of o.mv d) o.ma e) h
found-one d seen best o false e h = found-short d seen best o (le-false (need_of o.mv d) o.ma e) h

found-all : (d : ℕ) (seen : List Offered) (best : Option Offered) (os : List Offered) → Found d seen best →
    Found d (seen ++ os) (fitting_from d best os)
found-all d seen best [] h = subst (λ (xs : List Offered). Found d xs best) (sym (append-nil seen)) h
found-all d seen best (o ∷ os) h =
    subst (λ (xs : List Offered). Found d xs (fitting_from d best (o ∷ os))) (append_assoc seen (o ∷ []) os)
    (found-all d (seen ++ o ∷ []) (if is_enough d o then higher_of best o else best) os (found-one d seen best o (is_enough d o) refl h))

-- the supply that is found fits, and where none is found none fits
pub found-fitting : (d : ℕ) (os : List Offered) → MatchOption (fitting_from d None os) (All (Falls d) os) (IsFitting d os)
found-fitting d os = found-all d [] None os (All-nil (Falls d))

-- the greatest of the supplies that were seen
abbrev Topped : List Offered → Option Offered → Type 0
Topped seen best = MatchOption best (seen ≡ []) (IsGreatest seen)

topped-new : (seen : List Offered) (o : Offered) → All (λ (x : Offered). power_of x ≤ power_of o) seen →
    All (λ (x : Offered). power_of x ≡ power_of o → o.mv ≤ x.mv) seen → IsGreatest (seen ++ o ∷ []) o
topped-new seen o h k =
    record {
      offered = Contains-push seen o;
      greatest = All-push (λ (x : Offered). power_of x ≤ power_of o) seen o h (omega arith);
      lowest = All-push (λ (x : Offered). power_of x ≡ power_of o → o.mv ≤ x.mv) seen o k (λ (e : power_of o ≡ power_of o). omega arith);
    }

topped-old : (seen : List Offered) (b o : Offered) → power_of o ≤ power_of b → (power_of o ≡ power_of b → b.mv ≤ o.mv) → IsGreatest seen b →
    IsGreatest (seen ++ o ∷ []) b
topped-old seen b o k l h =
    record {
      offered = Contains-append_left seen (o ∷ []) b h.offered;
      greatest = All-push (λ (x : Offered). power_of x ≤ power_of b) seen o h.greatest k;
      lowest = All-push (λ (x : Offered). power_of x ≡ power_of b → b.mv ≤ x.mv) seen o h.lowest l;
    }

-- what the test of two powers and two voltages says
or-true : (a b : Bool) → a || b ≡ true → (a ≡ true) ⊎ (b ≡ true)
or-true true b h = inl refl
or-true false b h = inr h

or-false : (a b : Bool) → a || b ≡ false → (a ≡ false) × (b ≡ false)
or-false true b h = absurd (cc)
or-false false b h = (refl, h)

pub and-true : (a b : Bool) → a && b ≡ true → (a ≡ true) × (b ≡ true)
and-true true b h = (refl, h)
and-true false b h = absurd (cc)

and-false : (a b : Bool) → a && b ≡ false → a ≡ true → b ≡ false
and-false true b h e = h
and-false false b h e = absurd (cc)

eq-true : (m n : ℕ) → m == n ≡ true → m ≡ n
eq-true m n h = grind (arith, nat_tests)

eq-of : (m n : ℕ) → m ≡ n → m == n ≡ true
eq-of m n h = grind (arith, nat_tests)

over : (seen : List Offered) (b o : Offered) → (power_of b < power_of o) ⊎ ((power_of b ≡ power_of o) × (o.mv < b.mv)) → IsGreatest seen b →
    IsGreatest (seen ++ o ∷ []) o
over seen b o (inl l) h =
    topped-new seen o
    (All-weaker (λ (x : Offered). power_of x ≤ power_of b) (λ (x : Offered). power_of x ≤ power_of o)
    (λ (x : Offered) (m : power_of x ≤ power_of b). omega arith) seen h.greatest)
    (All-weaker (λ (x : Offered). power_of x ≤ power_of b) (λ (x : Offered). power_of x ≡ power_of o →
    o.mv ≤ x.mv) (λ (x : Offered) (m : power_of x ≤ power_of b) (e : power_of x ≡ power_of o). absurd (omega arith)) seen h.greatest)
over seen b o (inr t) h =
    let e : power_of b ≡ power_of o = t.0 in
    let l : o.mv < b.mv = t.1 in
    topped-new seen o
    (All-weaker (λ (x : Offered). power_of x ≤ power_of b) (λ (x : Offered). power_of x ≤ power_of o)
    (λ (x : Offered) (m : power_of x ≤ power_of b). omega arith) seen h.greatest)
    (All-weaker (λ (x : Offered). power_of x ≡ power_of b → b.mv ≤ x.mv) (λ (x : Offered). power_of x ≡ power_of o →
    o.mv ≤ x.mv) (λ (x : Offered) (f : power_of x ≡ power_of b → b.mv ≤ x.mv) (q : power_of x ≡ power_of o). let m = f (omega arith) in
    omega arith) seen h.lowest)

tested : (b o : Offered) → is_greater b o ≡ true → (power_of b < power_of o) ⊎ ((power_of b ≡ power_of o) × (o.mv < b.mv))
tested b o h =
    elim (or-true (nat_lt (power_of b) (power_of o)) ((power_of b == power_of o) && nat_lt o.mv b.mv) h) [
      | inl p ↦ inl (lt-true (power_of b) (power_of o) p)
      | inr p ↦ let q = and-true (power_of b == power_of o) (nat_lt o.mv b.mv) p in
          inr (eq-true (power_of b) (power_of o) q.0, lt-true o.mv b.mv q.1)
    ]

topped-both : (seen : List Offered) (b o : Offered) (t : Bool) → is_greater b o ≡ t → IsGreatest seen b →
    Topped (seen ++ o ∷ []) (if t then Some o else Some b)
topped-both seen b o true e h = over seen b o (tested b o e) h
topped-both seen b o false e h =
    let q = or-false (nat_lt (power_of b) (power_of o)) ((power_of b == power_of o) && nat_lt o.mv b.mv) e in
    topped-old seen b o (lt-false (power_of b) (power_of o) q.0)
    (λ (p : power_of o ≡ power_of b). lt-false o.mv b.mv
    (and-false (power_of b == power_of o) (nat_lt o.mv b.mv) q.1 (eq-of (power_of b) (power_of o) (sym p))))
    h

topped-one : (seen : List Offered) (best : Option Offered) (o : Offered) → Topped seen best → Topped (seen ++ o ∷ []) (greater_of best o)
topped-one seen None o h =
    topped-new seen o
    (All-same (λ (x : Offered). power_of x ≤ power_of o) seen [] h (All-nil (λ (x : Offered). power_of x ≤ power_of o)))
    (All-same (λ (x : Offered). power_of x ≡ power_of o → o.mv ≤ x.mv) seen [] h
    (All-nil (λ (x : Offered). power_of x ≡ power_of o → o.mv ≤ x.mv)))
topped-one seen (Some b) o h = topped-both seen b o (is_greater b o) refl h

topped-all : (seen : List Offered) (best : Option Offered) (os : List Offered) → Topped seen best →
    Topped (seen ++ os) (greatest_from best os)
topped-all seen best [] h = subst (λ (xs : List Offered). Topped xs best) (sym (append-nil seen)) h
topped-all seen best (o ∷ os) h =
    subst (λ (xs : List Offered). Topped xs (greatest_from best (o ∷ os))) (append_assoc seen (o ∷ []) os)
    (topped-all (seen ++ o ∷ []) (greater_of best o) os (topped-one seen best o h))

-- the supply that is found is the greatest one, and one is found where there is any
pub topped-greatest : (os : List Offered) → MatchOption (greatest_from None os) (os ≡ []) (IsGreatest os)
topped-greatest os = topped-all [] None os refl
