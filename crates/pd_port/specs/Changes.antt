-- How a step changes a port's contract.
use Rattle.std.specs.Prelude.{ℕ, ◌*◌, ◌==◌, ◌&&◌, Bool, if◌then◌else◌, Option, Some, None}
use Rattle.pd_objects.specs.declared.contract.Contract.{Contract}
use Rattle.pd_port.specs.declared.entry.ContractChange.{ContractChange}
use Rattle.pd_port.specs.declared.entry.ContractChange.TheVariants.{Made, Lost}

-- whether contracts differ in the offered current at most
abbrev pub is_same_draw : Contract → Contract → Bool
is_same_draw a b = a.position == b.position && a.mv == b.mv && a.ma == b.ma

-- From the contract before a step and the one after it: a contract is made where position, voltage or maximum operating
-- current is another, and lost where there is none any more. Another offered current alone is no change.
unfoldable pub contract_change : Option Contract → Option Contract → Option ContractChange
contract_change None None = None
contract_change (Some a) None = Some Lost
contract_change None (Some b) = Some (Made b)
contract_change (Some a) (Some b) = if is_same_draw a b then None else Some (Made b)

-- the power in microwatts of a port's contract after a change that is told, where it was so much before: voltage times maximum
-- operating current of the contract that is made, and 0 where it is lost
abbrev pub power_after : Option ContractChange → ℕ → ℕ
power_after None before = before
power_after (Some (Made c)) before = c.mv * c.ma
power_after (Some Lost) before = 0
