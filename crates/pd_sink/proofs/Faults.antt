-- A step brings at most one fault.
use Rattle.std.proofs.Common.{◌≡◌, ℕ, ◌+◌, ◌≤◌, nat_le, Bool, true, false, if◌then◌else◌, List, [], ◌∷◌, ◌++◌, Option, Some, None}
use Rattle.std.proofs.Common.{refl, ap, ◌∙◌, arith}
use Rattle.std.specs.List.{list_all}
use Rattle.std.proofs.lemmas.Bool.Decides.{nat_tests}
use Rattle.pd_sink.specs.declared.kinds.State.{State}
use Rattle.pd_sink.specs.declared.kinds.Stimulus.{Stimulus}
use Rattle.pd_sink.specs.declared.kinds.Sending.{Sending}
use Rattle.pd_sink.specs.declared.kinds.Note.TheVariants as note
use Rattle.pd_sink.specs.declared.kinds.Act.{Act}
use Rattle.pd_sink.specs.declared.kinds.Act.TheVariants as act
use Rattle.pd_sink.specs.declared.kinds.Deed.{Deed}
use Rattle.pd_sink.specs.declared.kinds.Deed.TheVariants as deed
use Rattle.pd_sink.specs.Record.{SinkRecord}
use Rattle.pd_timers.proofs.FirstRow.{first_row-all}
use Rattle.pd_sink.specs.Table.{Row, Guard, HardResetsLeft, Next, Stay, To, RQ, RD, SR, HR, holds, table, anything_else, fits, row_of}
use Rattle.pd_sink.specs.Table.{deeds_of_row}
use Rattle.pd_sink.specs.Acts.{after, wants, send, sending_of, asked_in, is_mismatch, all_wants, fault_count}
use Rattle.pd_sink.specs.Step.{before_row, row_at, deeds_at, acts_of}

-- the most faults that an act of a row may bring
faults_of_deed : Deed → ℕ
faults_of_deed (deed.Note n) = 1
faults_of_deed deed.NoteMismatch = 1
faults_of_deed _ = 0

faults_of_deeds : List Deed → ℕ
faults_of_deeds [] = 0
faults_of_deeds (d ∷ ds) = faults_of_deed d + faults_of_deeds ds

fault_count-append : (xs ys : List Act) → fault_count (xs ++ ys) ≡ fault_count xs + fault_count ys
fault_count-append [] ys = omega arith
fault_count-append (x ∷ xs) ys = let h = fault_count-append xs ys in omega arith

fault_count-send : (s : Option Sending) → fault_count (send s) ≡ 0
fault_count-send None = refl
fault_count-send (Some s) = refl

fault_count-mismatch : (b : Bool) → fault_count (if b then act.Note note.Mismatch ∷ [] else []) ≤ 1
fault_count-mismatch true = omega arith
fault_count-mismatch false = omega arith

fault_count-wants : (d : Deed) (r : SinkRecord) → fault_count (wants d r) ≤ faults_of_deed d
unfolding faults_of_deed
fault_count-wants (deed.Enter t) r = omega arith
fault_count-wants (deed.Start t) r = omega arith
fault_count-wants (deed.StartWhereAgain t) r = omega arith
fault_count-wants (deed.StartWhereFresh t) r = omega arith
fault_count-wants deed.KeepOffer r = omega arith
fault_count-wants (deed.Again b) r = omega arith
fault_count-wants (deed.Fresh b) r = omega arith
fault_count-wants (deed.Contract b) r = omega arith
fault_count-wants deed.HardResetCounterUp r = omega arith
fault_count-wants deed.HardResetCounterZero r = omega arith
fault_count-wants deed.ResetLayer r = omega arith
fault_count-wants (deed.Note n) r = omega arith
fault_count-wants deed.NoteMismatch r = fault_count-mismatch (is_mismatch (asked_in r))
fault_count-wants (deed.Send m) r = let h = fault_count-send (sending_of m r) in omega arith
fault_count-wants deed.SendHardReset r = omega arith

fault_count-all_wants : (ds : List Deed) (now : ℕ) (x : Stimulus) (r : SinkRecord) → fault_count (all_wants ds now x r) ≤ faults_of_deeds ds
unfolding faults_of_deeds
fault_count-all_wants [] now x r = omega arith
fault_count-all_wants (d ∷ ds) now x r =
    let h = fault_count-append (wants d r) (all_wants ds now x (after d now x r)) in
    let k = fault_count-wants d r in
    let l = fault_count-all_wants ds now x (after d now x r) in
    omega arith

-- of the guards, what a row does asks whether a Hard Reset is left
fixed : (g : Guard → Bool) (n : Next) (r : Row) →
    deeds_of_row g (record r { next = n }) ≡ deeds_of_row (λ w. g HardResetsLeft) (record r { next = n })
fixed g Stay r = refl
fixed g (To t) r = refl
fixed g RQ r = refl
fixed g RD r = refl
fixed g SR r = refl
fixed g HR r = refl

has_few_faults : Bool → Row → Bool
has_few_faults left r = nat_le (faults_of_deeds (deeds_of_row (λ w. left) r)) 1

few-table : (left : Bool) → list_all (has_few_faults left) table ≡ true
unfolding has_few_faults faults_of_deeds faults_of_deed
few-table true = refl
few-table false = refl

few-else : (left : Bool) → has_few_faults left anything_else ≡ true
unfolding has_few_faults faults_of_deeds
few-else left = refl

few-row : (left : Bool) (g : Guard → Bool) (s : State) (x : Stimulus) → has_few_faults left (row_of g s x) ≡ true
unfolding row_of
few-row left g s x = first_row-all (has_few_faults left) (fits g s x) anything_else table (few-else left) (few-table left)

few : (n m : ℕ) → n ≤ m → nat_le m 1 ≡ true → n ≤ 1
few n m h k = grind (arith, nat_tests)

pub fault_count-acts_of : (now : ℕ) (x : Stimulus) (r : SinkRecord) → fault_count (acts_of now x r) ≤ 1
unfolding acts_of has_few_faults
fault_count-acts_of now x r =
    let b = before_row x r in
    let w = row_at x b in
    few (fault_count (all_wants (deeds_at x b) now x b)) (faults_of_deeds (deeds_at x b)) (fault_count-all_wants (deeds_at x b) now x b)
    (ap (λ ds. nat_le (faults_of_deeds ds) 1) (fixed (holds b) w.next w) ∙ few-row (holds b HardResetsLeft) (holds b) b.state x)
