-- The scenario in which a packet is lost, as an edit makes it: one event more, at the packet's time on its port, before the port's other
-- events then.
use Rattle.std.specs.Prelude.{ℕ, zero, suc, ◌==◌, ◌-◌, ◌&&◌, Bool, false, min, List, fold, if◌then◌else◌, Option, Some, None}
use Rattle.std.specs.Prelude.{Result, Ok, Err}
use Rattle.pd_setup.specs.declared.event.EventKind.TheVariants as kind
use Rattle.pd_scenario.specs.declared.event.ScenarioEvent.{ScenarioEvent}
use Rattle.pd_scenario.specs.declared.event.ScenarioHappening.{ScenarioHappening}
use Rattle.pd_scenario.specs.declared.event.ScenarioHappening.TheVariants as happens
use Rattle.pd_scenario.specs.Scenarios.{ScenarioData, has_id}
use Rattle.pd_edit_lines.specs.Kinds.{EditKind}
use Rattle.pd_edit_lines.specs.declared.edit.Edit.{Edit}
use Rattle.pd_edit_lines.specs.declared.edit.Edit.TheVariants.{Insert}
use Rattle.pd_edit_lines.specs.declared.edit.EditHappening.TheVariants as edit
use Rattle.pd_edit_lines.specs.declared.fault.EditFault.{EditFault}
use Rattle.pd_edit.specs.Refusals.{edited}
use Rattle.pd_sweep.specs.declared.choice.Loss.{Loss}
use Rattle.pd_sweep.specs.declared.choice.Loss.TheVariants as loss
use Rattle.pd_sweep.specs.declared.packets.Target.{Target}
use Rattle.pd_sweep.specs.declared.variant.Obstacle.{Obstacle}
use Rattle.pd_sweep.specs.declared.variant.Obstacle.TheVariants.{NoId, Refused}

-- something happens to the port alone; a change of the budget comes before all of that anyway
abbrev pub is_on : ℕ → ScenarioHappening → Bool
is_on port (happens.OnPort other kind) = other == port
is_on port (happens.Budget mw) = false

-- an event happens to the port at the time
abbrev pub is_at : ℕ → ℕ → ScenarioEvent → Bool
is_at port at e = e.at == at && is_on port e.happening

-- the least id of those that happen to the port at the time, and one more than the greatest there may be where none does
abbrev pub lower_id : ℕ → ℕ → ℕ → ScenarioEvent → ℕ
lower_id port at least e = if is_at port at e then min least e.id else least

abbrev pub least_id : List ScenarioEvent → ℕ → ℕ → ℕ
least_id events port at = fold (lower_id port at) 1000001 events

-- the greatest id up to a number that no event has
unfoldable pub free_id : List ScenarioEvent → ℕ → Option ℕ
free_id events zero = None
free_id events (suc id) = if has_id events (suc id) then free_id events id else Some (suc id)

-- what happens to the packet: it is lost, or its first code after the ordered set is changed in its lowest bit
abbrev pub kind_of : Loss → EditKind
kind_of loss.Lost = kind.Lose
kind_of loss.Damaged = kind.Damage (record { place = 0; mask = 1 })

-- the line of an edit script that puts the event in
abbrev pub insertion : Loss → Target → ℕ → Edit
insertion harm target id = Insert id target.at (edit.OnPort target.port (kind_of harm))

abbrev pub refused_as : Result ScenarioData EditFault → Result ScenarioData Obstacle
refused_as (Ok c) = Ok c
refused_as (Err fault) = Err (Refused fault)

abbrev pub with_id : ℕ → ScenarioData → Loss → Target → Option ℕ → Result ScenarioData Obstacle
with_id n c harm target None = Err NoId
with_id n c harm target (Some id) = refused_as (edited n c (insertion harm target id))

-- The scenario of n ports with that event, which has the greatest unused id below those of the port's events then; or what is in
-- its way.
unfoldable pub variant : ℕ → ScenarioData → Loss → Target → Result ScenarioData Obstacle
variant n c harm target = with_id n c harm target (free_id c.events (least_id c.events target.port target.at - 1))
