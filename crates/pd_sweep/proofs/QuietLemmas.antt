-- Entries that leave nothing to be told.
use Rattle.std.proofs.Common.{◌≡◌, ℕ, ◌+◌, ◌-◌, ◌<◌, List, [], ◌∷◌, length, Option, Some, None, Bool, true, false, refl, ap, ◌∙◌, add-zero}
use Rattle.std.proofs.Common.{arith}
use Rattle.std.specs.Prelude.{◌==◌, ◌&&◌, IsSome, count_by, if◌then◌else◌, slice_set}
use Rattle.pd_line.specs.declared.notes.Fault.{Fault}
use Rattle.pd_port.specs.declared.entry.ContractChange.{ContractChange}
use Rattle.pd_port.specs.declared.entry.Entry.{Entry}
use Rattle.pd_run.specs.declared.note.Note.TheVariants as note
use Rattle.pd_run.specs.Notes.{Leaves}
use Rattle.pd_sweep.specs.Along.{changed, makers_after, mishaps_after, stands_after}
use Rattle.pd_sweep.specs.Summaries.{is_hard_reset, is_made}
use Rattle.pd_sweep.specs.declared.makers.Makers.{Makers}
use Rattle.pd_sweep.specs.declared.summary.Mishaps.{Mishaps}
use Rattle.pd_sweep.specs.declared.summary.Standing.{Standing}

pub and_false : (b : Bool) → (b && false) ≡ false
and_false true = refl
and_false false = refl

-- an entry that makes a contract at the instant marks its port
abbrev pub makers_if : ℕ → Makers → ℕ × Entry → Bool → Makers
makers_if at s m b = if b then record { ports = slice_set s.ports (m.0 - 1) true } else s

no_change : (s : Standing) (port at : ℕ) (change : Option ContractChange) → ¬ IsSome change → changed s port at change ≡ s
no_change s port at None h = refl
no_change s port at (Some change) h = absurd (h refl)

pub quiet_contract : (s : Standing) (m : ℕ × Entry) → ¬ Leaves note.Contract m → stands_after s m ≡ s
quiet_contract s m h = no_change s m.0 m.1.at m.1.contract h

not_made : (change : Option ContractChange) → ¬ IsSome change → is_made change ≡ false
not_made None h = refl
not_made (Some change) h = absurd (h refl)

pub quiet_maker : (at : ℕ) (s : Makers) (m : ℕ × Entry) → ¬ Leaves note.Contract m → makers_after at s m ≡ s
quiet_maker at s m h =
    ap (λ b. makers_if at s m b) (ap (λ b. m.1.at == at && b) (not_made m.1.contract h) ∙ and_false (m.1.at == at))

no_fault : (m : Mishaps) (faults : List Fault) → ¬ (0 < length faults) →
    record { faults = m.faults + length faults; hard_resets = m.hard_resets + count_by is_hard_reset faults } ≡ m
no_fault m [] h =
    let make : ℕ → ℕ → Mishaps = λ x y. record { faults = x; hard_resets = y } in
    ap (λ x. make x (m.hard_resets + 0)) (add-zero m.faults) ∙ ap (make m.faults) (add-zero m.hard_resets)
no_fault m (fault ∷ faults) h = absurd (h (omega arith))

pub quiet_fault : (s : Mishaps) (m : ℕ × Entry) → ¬ Leaves note.Fault m → mishaps_after s m ≡ s
quiet_fault s m h = no_fault s m.1.faults.items h
