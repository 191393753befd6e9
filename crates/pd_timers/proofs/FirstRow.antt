-- What holds of each row of a table holds of the first that fits.
use Rattle.std.proofs.Common.{◌≡◌, Bool, true, false, ◌&&◌, if◌then◌else◌, List, [], ◌∷◌, refl}
use Rattle.std.specs.List.{list_all}
use Rattle.pd_timers.specs.Table.{first_row}

pub and-left : (b c : Bool) → b && c ≡ true → b ≡ true
and-left true c h = refl
and-left false c h = h

pub and-right : (b c : Bool) → b && c ≡ true → c ≡ true
and-right true c h = h
and-right false c h = absurd (cc)

either : {R : Type 0} (p : R → Bool) (b : Bool) (r q : R) → p r ≡ true → p q ≡ true → p (if b then r else q) ≡ true
either p true r q h k = h
either p false r q h k = k

pub first_row-all : {R : Type 0} (p test : R → Bool) (otherwise : R) (rows : List R) →
    p otherwise ≡ true → list_all p rows ≡ true → p (first_row test otherwise rows) ≡ true
first_row-all p test otherwise [] e all = e
first_row-all p test otherwise (r ∷ rows) e all =
    either p (test r) r (first_row test otherwise rows) (and-left (p r) (list_all p rows) all)
    (first_row-all p test otherwise rows e (and-right (p r) (list_all p rows) all))
