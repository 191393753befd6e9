-- What the slots tell of the deadlines.
use Rattle.std.proofs.Common.{◌≡◌, ℕ, ◌<◌, ◌≤◌, List, [], ◌∷◌, Some, None, Bool, true, false, nat_eq, refl, ap, sym, ◌∙◌}
use Rattle.std.proofs.Common.{set, arith}
use Rattle.std.specs.Prelude.{if◌then◌else◌}
use Rattle.std.proofs.lemmas.Bool.{eqb-true, eqb-false, ne_eqb}
use Rattle.std.proofs.lemmas.List.{map-set}
use borrow.Author.Tests.{lt-true, le-false}
use Rattle.pd_timers.specs.declared.Timer.{Timer}
use Rattle.pd_timers.specs.Deadlines.{keep}
use Rattle.pd_timers.specs.Slots.{time_of, times_of, told}

not_idle : (n m : ℕ) → n < m → nat_eq n m ≡ false
not_idle n m h = ne_eqb n m (λ e. omega arith)

-- a slot below the idle one tells its time
pub time_of-runs : (n : ℕ) → n < 4294967295 → time_of n ≡ Some n
time_of-runs n h = ap (λ b. if b then None else Some n) (not_idle n 4294967295 h)

told-runs : (n : ℕ) (t : Timer) → n < 4294967295 → told n t ≡ Some (n, t)
told-runs n t h = ap (λ b. if b then None else Some (n, t)) (not_idle n 4294967295 h)

-- a time that is written, told
pub times_of-set : (slots : List ℕ) (i n : ℕ) → n < 4294967295 → times_of (set slots i n) ≡ set (times_of slots) i (Some n)
times_of-set slots i n h = map-set time_of slots i n ∙ ap (λ o. set (times_of slots) i o) (time_of-runs n h)

time_of-told : (a b : ℕ) (p q : Bool) → nat_eq a 4294967295 ≡ p → nat_eq b 4294967295 ≡ q
    → (if p then None else Some a) ≡ (if q then None else Some b) → a ≡ b
time_of-told a b true true e f h = eqb-true a 4294967295 e ∙ sym (eqb-true b 4294967295 f)
time_of-told a b true false e f h = cc
time_of-told a b false true e f h = cc
time_of-told a b false false e f h = cc

-- slots that tell the same are the same
pub times_of-one_to_one : (xs ys : List ℕ) → times_of xs ≡ times_of ys → xs ≡ ys
times_of-one_to_one [] [] h = refl
times_of-one_to_one [] (y ∷ ys) h = cc
times_of-one_to_one (x ∷ xs) [] h = cc
times_of-one_to_one (x ∷ xs) (y ∷ ys) h =
    let head : time_of x ≡ time_of y = cc in
    let same = time_of-told x y (nat_eq x 4294967295) (nat_eq y 4294967295) refl refl head in
    let tail : times_of xs ≡ times_of ys = cc in
    let rest = times_of-one_to_one xs ys tail in
    cc

sooner : (f time : ℕ) (x t : Timer) (b : Bool) → nat_eq f 4294967295 ≡ b → time < f
    → keep (if b then None else Some (f, x)) (Some time) t ≡ Some (time, t)
sooner f time x t true e lt = refl
sooner f time x t false e lt = ap (λ b. if b then Some (time, t) else Some (f, x)) (sym (lt-true time f lt))

-- a slot that is sooner than the first so far is the first
pub keep-sooner : (f time : ℕ) (x t : Timer) → f ≤ 4294967295 → time < f → keep (told f x) (time_of time) t ≡ told time t
keep-sooner f time x t le lt =
    ap (λ o. keep (told f x) o t) (time_of-runs time (omega arith))
    ∙ sooner f time x t (nat_eq f 4294967295) refl lt
    ∙ sym (told-runs time t (omega arith))

later : (f time : ℕ) (x t : Timer) (b : Bool) → nat_eq time 4294967295 ≡ b → time ≤ 4294967295 → f ≤ time
    → keep (told f x) (if b then None else Some time) t ≡ told f x
later f time x t true e le late = refl
later f time x t false e le late =
    let n : time < 4294967295 = let no = eqb-false time 4294967295 e in omega arith in
    let is = told-runs f x (omega arith) in
    ap (λ o. keep o (Some time) t) is
    ∙ ap (λ b. if b then Some (time, t) else Some (f, x)) (sym (le-false time f late))
    ∙ sym is

-- and one that isn't leaves it
pub keep-later : (f time : ℕ) (x t : Timer) → time ≤ 4294967295 → f ≤ time → keep (told f x) (time_of time) t ≡ told f x
keep-later f time x t le late = later f time x t (nat_eq time 4294967295) refl le late
