-- A step brings few faults.
use Rattle.std.proofs.Common.{◌≡◌, ℕ, ◌+◌, ◌≤◌, nat_le, Bool, true, false, List, [], ◌∷◌, ◌++◌, Option, refl, sym, subst, arith}
use Rattle.std.proofs.lemmas.Bool.Decides.{nat_tests}
use Rattle.pd_objects.specs.declared.query.Answer.{Answer}
use Rattle.pd_source.specs.declared.kinds.Stimulus.{Stimulus}
use Rattle.pd_source.specs.declared.kinds.Act.{Act}
use Rattle.pd_source.specs.declared.kinds.Deed.{Deed}
use Rattle.pd_source.specs.declared.kinds.Deed.TheVariants as deed
use Rattle.pd_source.specs.Record.{SourceSettings, SourceRecord}
use Rattle.pd_source.specs.Table.{Row, Guard, HardResetsLeft, Next, Stay, Same, To, SC, NC, SR, HR, holds, heard_of, sc, nc, sr, hr}
use Rattle.pd_source.specs.Table.{deeds_of_row}
use Rattle.pd_source.specs.Acts.{after, wants, all_wants, fault_count}
use Rattle.pd_source.specs.Step.{before_row, row_at, deeds_at, acts_of}
use Rattle.pd_source.proofs.Walk.{row_of-all}

-- how many faults an act of a row may bring
abbrev faults_of_deed : Deed → ℕ
faults_of_deed deed.On = 1
faults_of_deed (deed.Note n) = 1
faults_of_deed _ = 0

abbrev faults_of_deeds : List Deed → ℕ
faults_of_deeds [] = 0
faults_of_deeds (d ∷ ds) = faults_of_deed d + faults_of_deeds ds

fault_count-append : (xs ys : List Act) → fault_count (xs ++ ys) ≡ fault_count xs + fault_count ys
fault_count-append [] ys = omega arith
fault_count-append (x ∷ xs) ys = let h = fault_count-append xs ys in omega arith

faults_of_deeds-append : (xs ys : List Deed) → faults_of_deeds (xs ++ ys) ≡ faults_of_deeds xs + faults_of_deeds ys
faults_of_deeds-append [] ys = omega arith
faults_of_deeds-append (x ∷ xs) ys = let h = faults_of_deeds-append xs ys in omega arith

fault_count-wants : (s : SourceSettings) (d : Deed) (r : SourceRecord) → fault_count (wants s d r) ≡ faults_of_deed d
fault_count-wants s deed.On r = refl
fault_count-wants s (deed.Note n) r = refl
fault_count-wants s _ r = refl

fault_count-all_wants : (s : SourceSettings) (ds : List Deed) (now : ℕ) (x : Stimulus) (a : Option Answer) (r : SourceRecord) →
    fault_count (all_wants s ds now x a r) ≡ faults_of_deeds ds
fault_count-all_wants s [] now x a r = refl
fault_count-all_wants s (d ∷ ds) now x a r =
    let h = fault_count-append (wants s d r) (all_wants s ds now x a (after s d now x a r)) in
    let k = fault_count-wants s d r in
    let l = fault_count-all_wants s ds now x a (after s d now x a r) in
    omega arith

-- how many faults the acts that go with a next state may bring
abbrev faults_of_next : Next → ℕ
faults_of_next NC = 1
faults_of_next SR = 1
faults_of_next HR = 1
faults_of_next _ = 0

hr-fault_count : (b : Bool) → faults_of_deeds (hr b) ≡ 1
hr-fault_count true = refl
hr-fault_count false = refl

with-next : (g : Guard → Bool) (n : Next) (r : Row) →
    faults_of_deeds (deeds_of_row g (record r { next = n })) ≡ faults_of_deeds r.deeds + faults_of_next n
with-next g Stay r = omega arith
with-next g Same r = omega arith
with-next g (To t) r = omega arith
with-next g SC r = let h = faults_of_deeds-append r.deeds sc in omega arith
with-next g NC r = let h = faults_of_deeds-append r.deeds nc in omega arith
with-next g SR r = let h = faults_of_deeds-append r.deeds sr in omega arith
with-next g HR r =
    let h = faults_of_deeds-append r.deeds (hr (g HardResetsLeft)) in let k = hr-fault_count (g HardResetsLeft) in omega arith

abbrev has_few_faults : Row → Bool
has_few_faults r = nat_le (faults_of_deeds r.deeds + faults_of_next r.next) 2

few : (n : ℕ) → nat_le n 2 ≡ true → n ≤ 2
few n h = grind (arith, nat_tests)

row-fault_count : (g : Guard → Bool) (r : Row) → has_few_faults r ≡ true → faults_of_deeds (deeds_of_row g r) ≤ 2
row-fault_count g r h = let k = with-next g r.next r in let l = few (faults_of_deeds r.deeds + faults_of_next r.next) h in omega arith

pub fault_count-acts_of : (s : SourceSettings) (now : ℕ) (x : Stimulus) (a : Option Answer) (r : SourceRecord) →
    fault_count (acts_of s now x a r) ≤ 2
unfolding acts_of
fault_count-acts_of s now x a r =
    let z = before_row x r in
    subst (λ n. n ≤ 2) (sym (fault_count-all_wants s (deeds_at s x a z) now x a z))
    (row-fault_count (holds s a z) (row_at s x a z) (row_of-all has_few_faults (holds s a z) z.state (heard_of x) refl refl))
