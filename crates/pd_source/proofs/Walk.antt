-- What holds of each row of the table holds of the row that is taken.
use Rattle.std.proofs.Common.{◌≡◌, Bool, true, false, not, ◌&&◌, if◌then◌else◌, List, [], ◌∷◌, ◌++◌, refl}
use Rattle.std.specs.List.{list_all}
use Rattle.pd_timers.proofs.FirstRow.{first_row-all}
pub use Rattle.pd_timers.proofs.FirstRow.{and-left, and-right}
use Rattle.pd_source.specs.declared.kinds.State.{State}
use Rattle.pd_source.specs.declared.kinds.Heard.{Heard}
use Rattle.pd_source.specs.declared.kinds.Deed.{Deed}
use Rattle.pd_source.specs.declared.kinds.Deed.TheVariants as deed
use Rattle.pd_source.specs.Table.{Row, Guard, Always, HardResetsLeft, Next, Stay, Same, To, SC, NC, SR, HR, anything_else, table, first}
use Rattle.pd_source.specs.Table.{fits, row_of, sc, nc, sr, hr, deeds_of_row}

pub both : (b c : Bool) → b ≡ true → c ≡ true → b && c ≡ true
both true c h k = k
both false c h k = h

pub row_of-all : (p : Row → Bool) (g : Guard → Bool) (s : State) (h : Heard) → p anything_else ≡ true → list_all p table ≡ true →
    p (row_of g s h) ≡ true
unfolding row_of
row_of-all p g s h e all = first_row-all p (fits g s h) anything_else table e all

held-if : (g : Guard → Bool) (b : Bool) (r q : Row) → (b ≡ true → g r.guard ≡ true) → g q.guard ≡ true → g (if b then r else q).guard ≡ true
held-if g true r q h k = h refl
held-if g false r q h k = k

first-guard : (g : Guard → Bool) (s : State) (h : Heard) (rows : List Row) → g Always ≡ true → g (first g s h rows).guard ≡ true
first-guard g s h [] e = e
first-guard g s h (r ∷ rs) e =
    held-if g (fits g s h r) r (first g s h rs) (λ f. and-right _ (g r.guard) f) (first-guard g s h rs e)

-- the guard of the row that is taken holds
pub row_of-guard : (g : Guard → Bool) (s : State) (h : Heard) → g Always ≡ true → g (row_of g s h).guard ≡ true
unfolding row_of
row_of-guard g s h e = first-guard g s h table e

-- whether none of these acts is of a kind
abbrev pub none_of : (Deed → Bool) → List Deed → Bool
none_of p [] = true
none_of p (d ∷ ds) = not (p d) && none_of p ds

none_of-append : (p : Deed → Bool) (xs ys : List Deed) → none_of p xs ≡ true → none_of p ys ≡ true → none_of p (xs ++ ys) ≡ true
none_of-append p [] ys h k = k
none_of-append p (x ∷ xs) ys h k =
    both (not (p x)) (none_of p (xs ++ ys)) (and-left (not (p x)) (none_of p xs) h)
    (none_of-append p xs ys (and-right (not (p x)) (none_of p xs) h) k)

-- whether none is among the acts that go with a next state
abbrev pub none_of_next : (Deed → Bool) → Next → Bool
none_of_next p Stay = true
none_of_next p Same = not (p deed.EnterAgain)
none_of_next p (To t) = not (p (deed.Enter t))
none_of_next p SC = none_of p sc
none_of_next p NC = none_of p nc
none_of_next p SR = none_of p sr
none_of_next p HR = none_of p (hr true) && none_of p (hr false)

none_of-hr : (p : Deed → Bool) (b : Bool) → none_of_next p HR ≡ true → none_of p (hr b) ≡ true
none_of-hr p true h = and-left (none_of p (hr true)) (none_of p (hr false)) h
none_of-hr p false h = and-right (none_of p (hr true)) (none_of p (hr false)) h

abbrev pub none_of_row : (Deed → Bool) → Row → Bool
none_of_row p r = none_of p r.deeds && none_of_next p r.next

with-next : (p : Deed → Bool) (g : Guard → Bool) (n : Next) (r : Row) → none_of p r.deeds ≡ true → none_of_next p n ≡ true →
    none_of p (deeds_of_row g (record r { next = n })) ≡ true
with-next p g Stay r h k = h
with-next p g Same r h k = both (not (p deed.EnterAgain)) (none_of p r.deeds) k h
with-next p g (To t) r h k = both (not (p (deed.Enter t))) (none_of p r.deeds) k h
with-next p g SC r h k = none_of-append p r.deeds sc h k
with-next p g NC r h k = none_of-append p r.deeds nc h k
with-next p g SR r h k = none_of-append p r.deeds sr h k
with-next p g HR r h k = none_of-append p r.deeds (hr (g HardResetsLeft)) h (none_of-hr p (g HardResetsLeft) k)

pub none_of-deeds : (p : Deed → Bool) (g : Guard → Bool) (r : Row) → none_of_row p r ≡ true → none_of p (deeds_of_row g r) ≡ true
none_of-deeds p g r h =
    with-next p g r.next r (and-left (none_of p r.deeds) (none_of_next p r.next) h)
    (and-right (none_of p r.deeds) (none_of_next p r.next) h)
