-- What falls due next is the earliest of the dues.
use Rattle.std.proofs.Common.{◌≡◌, ◌⊎◌, ℕ, ◌≤◌, Bool, true, false, nat_lt, ◌==◌, ◌||◌, ◌&&◌, if◌then◌else◌, List, [], ◌∷◌}
use Rattle.std.proofs.Common.{Option, Some, None, refl, ◌∙◌, ap, inl, inr, sym, arith}
use Rattle.std.proofs.lemmas.Bool.Decides.{nat_tests}
use Rattle.pd_line.specs.Record.{PortRecord}
use Rattle.pd_port.specs.declared.due.Due.{Due}
use Rattle.pd_setup.specs.Events.{EventData}
use Rattle.pd_port.specs.Laws.{IsOneOf, IsEarliest}
use Rattle.pd_port.specs.Port.{rank, is_before, earlier, earliest, dues, due}

-- times first, and at one time ranks
lex : ℕ → ℕ → ℕ → ℕ → Bool
lex t r u s = nat_lt t u || (t == u && nat_lt r s)

lex-irreflexive : (t r : ℕ) → lex t r t r ≡ false
unfolding lex
lex-irreflexive t r = grind (arith, nat_tests)

lex-asymmetric : (t r u s : ℕ) → lex t r u s ≡ true → lex u s t r ≡ false
unfolding lex
lex-asymmetric t r u s h = grind (arith, nat_tests)

lex-transitive : (t r u s v q : ℕ) → lex u s t r ≡ false → lex v q u s ≡ false → lex v q t r ≡ false
unfolding lex
lex-transitive t r u s v q h k = grind (arith, nat_tests)

lex-time : (t r u s : ℕ) → lex t r u s ≡ false → u ≤ t
unfolding lex
lex-time t r u s h = grind (arith, nat_tests)

irreflexive : (a : Due) → is_before a a ≡ false
unfolding is_before lex
irreflexive a = lex-irreflexive a.time (rank a.what)

asymmetric : (a b : Due) → is_before a b ≡ true → is_before b a ≡ false
unfolding is_before lex
asymmetric a b = lex-asymmetric a.time (rank a.what) b.time (rank b.what)

transitive : (a b c : Due) → is_before b a ≡ false → is_before c b ≡ false → is_before c a ≡ false
unfolding is_before lex
transitive a b c = lex-transitive a.time (rank a.what) b.time (rank b.what) c.time (rank c.what)

-- what isn't before is no earlier
pub is_before-time : (c d : Due) → is_before c d ≡ false → d.time ≤ c.time
unfolding is_before lex
is_before-time c d = lex-time c.time (rank c.what) d.time (rank d.what)

picked : (b : Bool) (x y : Option Due) (d : Due) → (if b then x else y) ≡ Some d → (y ≡ Some d) ⊎ (x ≡ Some d)
picked true x y d e = inr e
picked false x y d e = inl e

earlier_is : (x y : Option Due) (d : Due) → earlier x y ≡ Some d → (x ≡ Some d) ⊎ (y ≡ Some d)
earlier_is None y d e = inr e
earlier_is (Some a) None d e = inl e
earlier_is (Some a) (Some b) d e = picked (is_before b a) (Some b) (Some a) d e

one_of : (ds : List (Option Due)) (d : Due) → earliest ds ≡ Some d → IsOneOf d ds
one_of [] d e = cc
one_of (x ∷ xs) d e = elim (earlier_is x (earliest xs) d e) [ inl h ↦ inl h | inr h ↦ inr (one_of xs d h) ]

-- there is a due, and this one isn't before it
abbrev Beaten : Due → Option Due → Type 0
Beaten c first = (d : Due) × (first ≡ Some d) × (is_before c d ≡ false)

choice : (a b : Due) (v : Bool) → is_before b a ≡ v →
    ((d : Due) × ((if v then Some b else Some a) ≡ Some d) × (is_before a d ≡ false) × (is_before b d ≡ false))
choice a b true h = (b, refl, asymmetric b a h, irreflexive b)
choice a b false h = (a, refl, irreflexive a, h)

first_wins : (a : Due) (e : Option Due) → Beaten a (earlier (Some a) e)
first_wins a None = (a, refl, irreflexive a)
first_wins a (Some b) = let w = choice a b (is_before b a) refl in (w.0, w.1, w.2)

other_wins : (x : Option Due) (b : Due) → Beaten b (earlier x (Some b))
other_wins None b = (b, refl, irreflexive b)
other_wins (Some a) b = let w = choice a b (is_before b a) refl in (w.0, w.1, w.3)

beaten : (ds : List (Option Due)) (c : Due) → IsOneOf c ds → Beaten c (earliest ds)
beaten [] c h = absurd h
beaten (x ∷ xs) c (inl e) = rw e (first_wins c (earliest xs))
beaten (x ∷ xs) c (inr h) =
    let i = beaten xs c h in
    let w = other_wins x i.0 in
    (w.0, ap (earlier x) i.1 ∙ w.1, transitive w.0 i.0 c w.2 i.2)

along : (c d f : Due) (first : Option Due) → first ≡ Some f → first ≡ Some d → is_before c f ≡ false → is_before c d ≡ false
along c d f first e g h = let same : f ≡ d = cc in rw (sym same) h

pub earliest-IsEarliest : (ds : List (Option Due)) (d : Due) → earliest ds ≡ Some d → IsEarliest d ds
earliest-IsEarliest ds d e =
    record {
      one = one_of ds d e;
      least = λ c h. let w = beaten ds c h in along c d w.0 (earliest ds) w.1 e w.2;
    }

pub due-IsEarliest : (r : PortRecord) (next : Option EventData) (d : Due) → due r next ≡ Some d → IsEarliest d (dues r next)
unfolding due
due-IsEarliest r next d e = earliest-IsEarliest (dues r next) d e

-- where something is due, something falls due that it isn't before
pub some_due : (r : PortRecord) (next : Option EventData) (c : Due) → IsOneOf c (dues r next) →
    (d : Due) × (due r next ≡ Some d) × (is_before c d ≡ false)
unfolding due
some_due r next c h = beaten (dues r next) c h
