-- Entries that leave nothing that is looked for.
use Rattle.std.proofs.Common.{◌≡◌, ◌≢◌, ℕ, ◌<◌, List, [], ◌∷◌, length, Option, Some, None, Bool, true, false, refl, ap, ◌∙◌, arith}
use Rattle.std.proofs.Common.{⊎_elim}
use Rattle.std.specs.Prelude.{◌==◌, ◌&&◌, IsSome, bytes_eq, nat_le, if◌then◌else◌}
use Rattle.std.specs.List.{list_any}
use Rattle.std.proofs.lemmas.Bool.{cases_eq, ne_eqb}
use Rattle.pd_header.specs.declared.kind.Kind.{Kind}
use Rattle.pd_header.specs.declared.side.Side.{Side}
use Rattle.pd_objects.specs.declared.contract.Contract.{Contract}
use Rattle.pd_line.specs.declared.notes.Fault.{Fault}
use Rattle.pd_line.specs.declared.notes.Start.{Start}
use Rattle.pd_port.specs.declared.entry.ContractChange.{ContractChange}
use Rattle.pd_port.specs.declared.entry.Entry.{Entry}
use Rattle.pd_report.specs.FaultLines.{fault_words}
use Rattle.pd_run.specs.declared.note.Note.TheVariants as note
use Rattle.pd_run.specs.Notes.{Leaves}
use Rattle.pd_sweep.specs.Summaries.{left_by}
use Rattle.pd_expect.specs.Along.{stands_after}
use Rattle.pd_expect.specs.Sentences.{has_fault, has_packet, starts}

and_false : (b : Bool) → (b && false) ≡ false
and_false true = refl
and_false false = refl

same_if : {X : Type 0} (b : Bool) (x : X) → (if b then x else x) ≡ x
same_if true x = refl
same_if false x = refl

no_change : (stood : Option Contract) (change : Option ContractChange) → ¬ IsSome change → left_by stood change ≡ stood
no_change stood None h = refl
no_change stood (Some change) h = absurd (h refl)

pub quiet_contract : (port at : ℕ) (stood : Option Contract) (m : ℕ × Entry) → ¬ Leaves note.Contract m →
    stands_after port at stood m ≡ stood
quiet_contract port at stood m h =
    ap (λ x. if (m.0 == port && nat_le m.1.at at) then x else stood) (no_change stood m.1.contract h)
    ∙ same_if (m.0 == port && nat_le m.1.at at) stood

no_fault : (words : List ℕ) (faults : List Fault) → ¬ (0 < length faults) →
    list_any (λ fault. bytes_eq (fault_words fault) words) faults ≡ false
no_fault words [] h = refl
no_fault words (fault ∷ faults) h = absurd (h (omega arith))

pub quiet_fault : (port : ℕ) (words : List ℕ) (m : ℕ × Entry) → ¬ Leaves note.Fault m → has_fault port words m ≡ false
quiet_fault port words m h = ap (λ b. m.0 == port && b) (no_fault words m.1.faults.items h) ∙ and_false (m.0 == port)

no_start : (side : Side) (kind : Kind) (start : Option Start) → ¬ IsSome start → starts side kind start ≡ false
no_start side kind None h = refl
no_start side kind (Some start) h = absurd (h refl)

pub quiet_packet : (port : ℕ) (side : Side) (kind : Kind) (from to : ℕ) (m : ℕ × Entry) → ¬ Leaves (note.Packet port) m →
    has_packet port side kind from to m ≡ false
quiet_packet port side kind from to m h =
    let times : Bool = nat_le from m.1.at && nat_le m.1.at to in
    ⊎_elim
    (λ (same : m.0 ≡ port).
    ap (λ b. (m.0 == port && times) && b) (no_start side kind m.1.start (λ some. h (same, some))) ∙ and_false (m.0 == port && times))
    (λ (other : m.0 ≢ port). ap (λ b. (b && times) && starts side kind m.1.start) (ne_eqb m.0 port other))
    (cases_eq m.0 port)
