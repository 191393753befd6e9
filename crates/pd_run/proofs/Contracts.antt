-- The contracts of a run take no more than the holds.
use Rattle.std.proofs.Common.{◌≡◌, ℕ, ◌<◌, ◌≤◌, List, length, sum, sym, ◌∙◌, arith, slice_index}
use Rattle.std.proofs.lemmas.List.FromFn.{get_or-map-range_with_len, length-map-range_with_len}
use Rattle.pd_port.specs.Budget.{contract_power}
use Rattle.pd_port.proofs.PortLaws.{hold_contract}
use Rattle.pd_scenario.specs.Plan.{Plan, count, settings_of}
use Rattle.pd_run.specs.Run.{Move, standing, holds_after, contract_powers}
use Rattle.pd_run.proofs.Awaited.{sum-below}
use Rattle.pd_run.proofs.Steps.{hold_known, length-holds_after}

pub length-contract_powers : (plan : Plan) (past : List Move) → length (contract_powers plan past) ≡ count plan
length-contract_powers plan past = length-map-range_with_len (λ p. contract_power (standing plan past p).state) 0 (count plan)

power_known : (plan : Plan) (past : List Move) (p : ℕ) → p < count plan
    → slice_index (contract_powers plan past) p ≡ contract_power (standing plan past p).state
power_known plan past p lt = get_or-map-range_with_len (λ k. contract_power (standing plan past k).state) 0 (count plan) p
    p 0 lt (omega arith)

-- each contract is within its port's hold, and so all are within all
pub contracts_held : (plan : Plan) (past : List Move) → sum (contract_powers plan past) ≤ sum (holds_after plan past)
contracts_held plan past =
    sum-below (contract_powers plan past) (holds_after plan past) (length-contract_powers plan past ∙ sym (length-holds_after plan past))
    (λ k lt.
    let kn : k < count plan = omega (arith, length-contract_powers plan past) in
    omega (arith, power_known plan past k kn, hold_known plan past k kn, hold_contract (settings_of plan k) (standing plan past k).state))
