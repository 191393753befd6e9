-- An edit that isn't refused leaves a valid scenario.
use Rattle.std.proofs.Common.{◌≡◌, ℕ, ◌≤◌, ◌%◌, true, ◌&&◌, arith}
use Rattle.std.proofs.lemmas.Bool.{and_parts}
use Rattle.std.proofs.lemmas.Bool.Decides.{nat_tests}
use Rattle.pd_setup.specs.Sinks.{IsSink}
use Rattle.pd_setup.specs.declared.sink.SinkMode.{SinkMode}
use Rattle.pd_setup.specs.declared.sink.SinkRevision.{SinkRevision}
use Rattle.pd_scenario.specs.declared.limits.Quantity.TheVariants as quantity
use Rattle.pd_scenario.specs.Limits.{allows}
use Rattle.pd_scenario.specs.Scenarios.{ScenarioData, IsValid}
use Rattle.pd_edit_lines.specs.declared.edit.Edit.{Edit}
use Rattle.pd_edit_lines.specs.declared.edit.Edit.TheVariants.{Insert, Remove, Move, Change, Cable, DropCable}
use Rattle.pd_edit_lines.specs.declared.edit.Edit.TheVariants.{Sink, DropSink, Caps, Floor, Budget, End}
use Rattle.pd_edit.specs.Edits.{outcome, HasNames}
use Rattle.pd_edit.specs.Refusals.{IsAccepted}
use Rattle.pd_edit.proofs.Events.{valid_insert, valid_remove, valid_move, valid_change}
use Rattle.pd_edit.proofs.Cables.{valid_cable, valid_drop_cable}
use Rattle.pd_edit.proofs.Sinks.{valid_sink, valid_drop_sink}
use Rattle.pd_edit.proofs.Settings.{valid_caps, valid_floor, valid_budget_edit, valid_end_edit}

voltage : (n : ℕ) → allows quantity.Voltage n ≡ true → (5000 ≤ n) × (n ≤ 20000) × (n % 50 ≡ 0)
voltage n h = (grind (arith, nat_tests), grind (arith, nat_tests), grind (arith, nat_tests))

demand : (n : ℕ) → allows quantity.Demand n ≡ true → (50 ≤ n) × (n ≤ 100000)
demand n h = (grind (arith, nat_tests), grind (arith, nat_tests))

is_sink : (max_mv demand_mw : ℕ) (mode : SinkMode) (revision : SinkRevision)
    → allows quantity.Voltage max_mv && allows quantity.Demand demand_mw ≡ true
    → IsSink (record { max_mv = max_mv; demand_mw = demand_mw; mode = mode; revision = revision })
is_sink max_mv demand_mw mode revision h =
    let both = and_parts (allows quantity.Voltage max_mv) (allows quantity.Demand demand_mw) h in
    let volts = voltage max_mv both.0 in
    let power = demand demand_mw both.1 in
    record { least_mv = volts.0; most_mv = volts.1; steps_mv = volts.2; least_mw = power.0; most_mw = power.1 }

pub valid_outcome : (n : ℕ) (c : ScenarioData) (edit : Edit) → HasNames edit → IsValid n c → IsAccepted n c edit
    → IsValid n (outcome c edit)
valid_outcome n c (Insert id at happening) names v a = valid_insert n c id at happening v a
valid_outcome n c (Remove id) names v a = valid_remove n c id v
valid_outcome n c (Move id at) names v a = valid_move n c id at v a
valid_outcome n c (Change id kind) names v a = valid_change n c id kind v a
valid_outcome n c (Cable name plug rating) names v a = valid_cable n c name plug rating names v a
valid_outcome n c (DropCable name) names v a = valid_drop_cable n c name v a
valid_outcome n c (Sink name max_mv demand_mw mode revision) names v a =
    valid_sink n c name max_mv demand_mw mode revision names (is_sink max_mv demand_mw mode revision a.in_range) v a
valid_outcome n c (DropSink name) names v a = valid_drop_sink n c name v a
valid_outcome n c (Caps port supplies) names v a = valid_caps n c port supplies v a
valid_outcome n c (Floor port mw) names v a = valid_floor n c port mw v a
valid_outcome n c (Budget mw) names v a = valid_budget_edit n c mw v a
valid_outcome n c (End at) names v a = valid_end_edit n c at v a
