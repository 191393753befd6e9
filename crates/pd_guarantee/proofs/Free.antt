-- What is free to a port is between the least and the most that is told.
use Rattle.std.proofs.Common.{◌≡◌, ℕ, suc, ◌+◌, ◌<◌, ◌≤◌, map, List, ◌++◌, length, sum, take, drop, slice_index}
use Rattle.std.proofs.Common.{sym, ap, ◌∙◌, subst, arith}
use Rattle.std.specs.Prelude.{sum_by}
use Rattle.std.proofs.lemmas.List.{length-map, take-map, drop-map}
use Rattle.std.proofs.lemmas.List.Sums.{sum-map}
use Rattle.std.proofs.Math.ListN as list_map
use Rattle.pd_setup.specs.Settings.{SettingsData, floor_of}
use Rattle.pd_port.proofs.PortLaws.{hold_floor}
use Rattle.pd_ledger.specs.Account.{free_of}
use Rattle.pd_scenario.specs.Plan.{Plan, count, floors_of, force, no_settings, settings_of}
use Rattle.pd_run.specs.Run.{Move, Run, account_after, holds_after, standing}
use Rattle.pd_run.proofs.Awaited.{floor_at, length-floors}
use Rattle.pd_run.proofs.Steps.{hold_known, length-holds_after}
use Rattle.pd_guarantee.specs.Bounds.{free_at_least, free_at_most, greatest_hold, higher, lower}
use Rattle.pd_guarantee.specs.Charger.{Charger, IsOf}
use Rattle.pd_guarantee.specs.Laws.{FreePowerIsBounded, IsBetween}
use Rattle.pd_guarantee.proofs.Most.{hold_in_run}
use Rattle.pd_guarantee.proofs.Parts.{NoneAbove, drop-below, others, take-below}

-- the greatest holds of a plan's ports
abbrev pub greatest_holds : Plan → List ℕ
greatest_holds plan = map greatest_hold plan.settings

pub length-greatest : (plan : Plan) → length (greatest_holds plan) ≡ count plan
length-greatest plan = length-map plan.settings greatest_hold

greatest_at : (plan : Plan) (p : ℕ) → slice_index (greatest_holds plan) p ≡ greatest_hold (settings_of plan p)
unfolding greatest_hold
greatest_at plan p = list_map.get_or-map greatest_hold plan.settings p no_settings

-- ---- each port holds its floor at the least, and its greatest hold at the most

pub above_floors : (plan : Plan) (past : List Move) → NoneAbove (floors_of plan) (holds_after plan past)
above_floors plan past k lt =
    let known : k < count plan = omega (arith, length-floors plan) in
    omega (arith, floor_at plan k, hold_known plan past k known, hold_floor (settings_of plan k) (standing plan past k).state)

pub below_greatest : (plan : Plan) (moves past rest : List Move) → Run plan moves → moves ≡ past ++ rest
    → NoneAbove (holds_after plan past) (greatest_holds plan)
below_greatest plan moves past rest run e k lt =
    let known : k < count plan = omega (arith, length-holds_after plan past) in
    omega (arith, greatest_at plan k, hold_known plan past k known, hold_in_run plan moves past rest run e k)

-- ---- a charger with the settings of a plan

abbrev pub with_settings_of : Plan → ℕ → ℕ → Charger
with_settings_of plan least greatest = record { settings = plan.settings; least = least; greatest = greatest }

pub same_charger : (c : Charger) (plan : Plan) → plan.settings ≡ c.settings → with_settings_of plan c.least c.greatest ≡ c
same_charger c plan e = ap (λ (ss : List SettingsData). record { settings = ss; least = c.least; greatest = c.greatest }) e

-- sums over the ports before one, and after it
pub lower_of : (plan : Plan) (least greatest p : ℕ) (measure : SettingsData → ℕ)
    → lower measure (with_settings_of plan least greatest) p ≡ sum (take p (map measure plan.settings))
lower_of plan least greatest p measure =
    sym (sum-map measure (take p plan.settings)) ∙ ap sum (sym (take-map measure p plan.settings))

pub higher_of : (plan : Plan) (least greatest p : ℕ) (measure : SettingsData → ℕ)
    → higher measure (with_settings_of plan least greatest) p ≡ sum (drop (suc p) (map measure plan.settings))
higher_of plan least greatest p measure =
    let next : p + 1 ≡ suc p = omega arith in
    ap (λ k. sum_by measure (drop k plan.settings)) next ∙ sym (sum-map measure (drop (suc p) plan.settings))
    ∙ ap sum (sym (drop-map measure (suc p) plan.settings))

-- ---- what is free

least_free : (plan : Plan) (moves past rest : List Move) (p at least greatest : ℕ) → Run plan moves → moves ≡ past ++ rest
    → p < count plan → least ≤ force plan at
    → free_at_least (with_settings_of plan least greatest) p ≤ free_of (account_after plan past at) p
unfolding free_at_least
least_free plan moves past rest p at least greatest run e known le =
    let holds = holds_after plan past in
    let most = greatest_holds plan in
    let many : length holds ≡ length most = length-holds_after plan past ∙ sym (length-greatest plan) in
    let there : p < length holds = omega (arith, length-holds_after plan past) in
    let below = below_greatest plan moves past rest run e in
    omega (
      arith,
      others p holds there,
      take-below p holds most many (λ k low lt. below k lt),
      drop-below (suc p) holds most many below,
      lower_of plan least greatest p greatest_hold,
      higher_of plan least greatest p greatest_hold,
      floor_at plan p,
    )

most_free : (plan : Plan) (past : List Move) (p at least greatest : ℕ) → p < count plan → force plan at ≤ greatest
    → free_of (account_after plan past at) p ≤ free_at_most (with_settings_of plan least greatest) p
unfolding free_at_most
most_free plan past p at least greatest known le =
    let holds = holds_after plan past in
    let floors = floors_of plan in
    let many : length floors ≡ length holds = length-floors plan ∙ sym (length-holds_after plan past) in
    let there : p < length holds = omega (arith, length-holds_after plan past) in
    let above = above_floors plan past in
    omega (
      arith,
      others p holds there,
      take-below p floors holds many (λ k low lt. above k lt),
      drop-below (suc p) floors holds many above,
      lower_of plan least greatest p floor_of,
      higher_of plan least greatest p floor_of,
      floor_at plan p,
    )

pub free_between : (c : Charger) (plan : Plan) (moves past rest : List Move) → IsOf c plan → Run plan moves → moves ≡ past ++ rest
    → (p at : ℕ) → p < count plan → at ≤ plan.end
    → IsBetween (free_at_least c p) (free_at_most c p) (free_of (account_after plan past at) p)
free_between c plan moves past rest is run e p at known soon =
    let free = free_of (account_after plan past at) p in
    let same = same_charger c plan is.settings in
    record {
      no_less = subst (λ (x : Charger). free_at_least x p ≤ free) same
          (least_free plan moves past rest p at c.least c.greatest run e known (is.least at soon));
      no_more = subst (λ (x : Charger). free ≤ free_at_most x p) same
          (most_free plan past p at c.least c.greatest known (is.greatest at soon));
    }

pub free_power_is_bounded : FreePowerIsBounded
free_power_is_bounded c plan moves done rest is run e p at known soon = free_between c plan moves done rest is run e p at known soon
