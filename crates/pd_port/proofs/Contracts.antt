-- What entries tell of contracts.
use Rattle.std.proofs.Common.{◌≡◌, ◌*◌, Bool, true, false, if◌then◌else◌, Option, Some, None, refl, ap, ◌∙◌, arith}
use Rattle.std.proofs.lemmas.Bool.Decides.{nat_tests}
use Rattle.pd_objects.specs.declared.contract.Contract.{Contract}
use Rattle.pd_objects.specs.declared.query.Answer.{Answer}
use Rattle.pd_source.specs.Step.{contracted}
use Rattle.pd_line.specs.Record.{PortRecord, nothing_attached}
use Rattle.pd_setup.specs.Settings.{SettingsData}
use Rattle.pd_port.specs.declared.due.Due.{Due}
use Rattle.pd_port.specs.declared.entry.ContractChange.TheVariants.{Made}
use Rattle.pd_port.specs.Budget.{contract_power, ContractsAreTold}
use Rattle.pd_port.specs.Changes.{contract_change, is_same_draw, power_after}
use Rattle.pd_port.specs.Port.{detached, whole, portstep, record_after, entry_of}

-- contracts that differ in the offered current at most have the same power
same_power : (a b : Contract) → is_same_draw a b ≡ true → a.mv * a.ma ≡ b.mv * b.ma
same_power a b h =
    let voltage : a.mv ≡ b.mv = grind (arith, nat_tests) in
    let current : a.ma ≡ b.ma = grind (arith, nat_tests) in
    ap (λ n. n * a.ma) voltage ∙ ap (λ n. b.mv * n) current

told_both : (a b : Contract) (same : Bool) → is_same_draw a b ≡ same → power_after (if same then None
    else Some (Made b)) (a.mv * a.ma) ≡ b.mv * b.ma
told_both a b true h = same_power a b h
told_both a b false h = refl

change_told : (a b : Option Contract) → power_after (contract_change a b) (contracted a) ≡ contracted b
unfolding contract_change
change_told None None = refl
change_told (Some a) None = refl
change_told None (Some b) = refl
change_told (Some a) (Some b) = told_both a b (is_same_draw a b) refl

after_told : (s : SettingsData) (r : PortRecord) (d : Due) (given : Option Answer) →
    power_after (entry_of s r d given).contract (contract_power r) ≡ contract_power (record_after s r d given)
unfolding entry_of record_after
after_told s r d given = change_told r.source.contract (portstep (whole s r) d given).port.source.record.contract

detached_none : (s : SettingsData) → contract_power (detached s) ≡ 0
unfolding detached nothing_attached
detached_none s = refl

pub contracts_are_told : ContractsAreTold
contracts_are_told = record { at_start = detached_none; after_each = after_told }
