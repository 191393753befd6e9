-- Each number that is shown has a sentence.
use Rattle.std.proofs.Common.{refl}
use Rattle.pd_scenario_tables.specs.Numbers as scenario
use Rattle.pd_scenario_tables.specs.declared.fault.ScenarioFault.{ScenarioFault}
use Rattle.pd_scenario_tables.specs.declared.fault.ScenarioFault.TheVariants as scenario_faults
use Rattle.pd_edit_lines.specs.Numbers as edit
use Rattle.pd_edit_lines.specs.declared.fault.EditFault.{EditFault}
use Rattle.pd_edit_lines.specs.declared.fault.EditFault.TheVariants as edit_faults
use Rattle.pd_device.specs.Numbers as session
use Rattle.pd_device.specs.declared.fault.BenchFault.{BenchFault}
use Rattle.pd_device.specs.declared.fault.BenchFault.TheVariants as bench_faults
use Rattle.pd_hints.specs.ReasonLaws.{EachHasAReason, HasReason}

of_scenario : (fault : ScenarioFault) → HasReason (scenario.number_of fault)
of_scenario scenario_faults.Toml = (_, refl)
of_scenario scenario_faults.UnknownKey = (_, refl)
of_scenario scenario_faults.WrongType = (_, refl)
of_scenario scenario_faults.MissingKey = (_, refl)
of_scenario scenario_faults.Range = (_, refl)
of_scenario scenario_faults.Name = (_, refl)
of_scenario scenario_faults.Duplicate = (_, refl)
of_scenario scenario_faults.Supplies = (_, refl)
of_scenario scenario_faults.Floors = (_, refl)
of_scenario scenario_faults.UnknownName = (_, refl)
of_scenario scenario_faults.Limit = (_, refl)
of_scenario scenario_faults.Memory = (_, refl)

of_line : (fault : EditFault) → HasReason (edit.number_of fault)
of_line edit_faults.Syntax = (_, refl)
of_line edit_faults.IdTaken = (_, refl)
of_line edit_faults.NoSuchId = (_, refl)
of_line edit_faults.NoSuchPort = (_, refl)
of_line edit_faults.NoSuchName = (_, refl)
of_line edit_faults.InUse = (_, refl)
of_line edit_faults.Range = (_, refl)
of_line edit_faults.Supplies = (_, refl)
of_line edit_faults.Floors = (_, refl)
of_line edit_faults.Limit = (_, refl)
of_line edit_faults.Memory = (_, refl)

of_session : (fault : BenchFault) → HasReason (session.number_of fault)
of_session bench_faults.ReadFailed = (_, refl)
of_session bench_faults.WriteFailed = (_, refl)
of_session bench_faults.Memory = (_, refl)
of_session bench_faults.ReaderTooLong = (_, refl)

pub each_has : EachHasAReason
each_has = (of_scenario, of_line, of_session)
