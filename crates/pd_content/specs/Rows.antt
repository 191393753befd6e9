-- The fields of headers and objects that are told, in the order in which they are: a row for each, with its name, its unit, and
-- its highest and lowest bit (USB Power Delivery 3.0, sections 6.2.1.1, 6.4.1, 6.4.2 and 6.4.4).
use Rattle.std.specs.Prelude.{ℕ, List, [], ◌∷◌}
use Rattle.pd_symbols.specs.declared.channel.Channel.{Channel}
use Rattle.pd_symbols.specs.declared.channel.Channel.TheVariants.{Sop, SopPrime}
use Rattle.pd_content.specs.declared.field.Field.{Field}
use Rattle.pd_content.specs.declared.field.Field.TheVariants as field
use Rattle.pd_content.specs.declared.field.FlagName.{FlagName}
use Rattle.pd_content.specs.declared.field.FlagName.TheVariants as flag
use Rattle.pd_content.specs.declared.row.Unit.{Unit}
use Rattle.pd_content.specs.declared.row.Unit.TheVariants as unit
use Rattle.pd_content.specs.declared.row.Row.{Row}
use Rattle.pd_content.specs.declared.kind.ObjectKind.{ObjectKind}
use Rattle.pd_content.specs.declared.kind.ObjectKind.TheVariants as object

abbrev row : Field → Unit → ℕ → ℕ → Row
row name told_in high low = record { field = name; unit = told_in; high = high; low = low }

-- a flag is one bit
abbrev flag_row : FlagName → ℕ → Row
flag_row name bit = row (field.Flag name) unit.Flag bit bit

abbrev pub header_rows : Channel → List Row
header_rows Sop =
    row field.Id unit.Number 11 9
    ∷ row field.PowerRole unit.PowerRole 8 8
    ∷ row field.DataRole unit.DataRole 5 5
    ∷ row field.Revision unit.Revision 7 6 ∷ []
header_rows SopPrime =
    row field.Id unit.Number 11 9
    ∷ row field.Sender unit.Sender 8 8
    ∷ row field.Revision unit.Revision 7 6 ∷ []

abbrev pub rows_of : ObjectKind → List Row
rows_of object.FixedSupply =
    row field.Voltage (unit.Volts 50) 19 10
    ∷ row field.Current (unit.Amperes 10) 9 0
    ∷ row field.PeakCurrent unit.Level 21 20
    ∷ flag_row flag.DualRolePower 29
    ∷ flag_row flag.UsbSuspendSupported 28
    ∷ flag_row flag.UnconstrainedPower 27
    ∷ flag_row flag.UsbCommunicationsCapable 26
    ∷ flag_row flag.DualRoleData 25
    ∷ flag_row flag.UnchunkedExtendedMessages 24 ∷ []
rows_of object.BatterySupply =
    row field.MinimumVoltage (unit.Volts 50) 19 10
    ∷ row field.MaximumVoltage (unit.Volts 50) 29 20
    ∷ row field.Power (unit.Watts 250) 9 0 ∷ []
rows_of object.VariableSupply =
    row field.MinimumVoltage (unit.Volts 50) 19 10
    ∷ row field.MaximumVoltage (unit.Volts 50) 29 20
    ∷ row field.Current (unit.Amperes 10) 9 0 ∷ []
rows_of object.ProgrammableSupply =
    row field.MinimumVoltage (unit.Volts 100) 15 8
    ∷ row field.MaximumVoltage (unit.Volts 100) 24 17
    ∷ row field.Current (unit.Amperes 50) 6 0
    ∷ flag_row flag.PowerLimited 27 ∷ []
rows_of object.SinkFixedSupply =
    row field.Voltage (unit.Volts 50) 19 10
    ∷ row field.Current (unit.Amperes 10) 9 0
    ∷ flag_row flag.DualRolePower 29
    ∷ flag_row flag.HigherCapability 28
    ∷ flag_row flag.UnconstrainedPower 27
    ∷ flag_row flag.UsbCommunicationsCapable 26
    ∷ flag_row flag.DualRoleData 25 ∷ []
rows_of object.SinkBatterySupply =
    row field.MinimumVoltage (unit.Volts 50) 19 10
    ∷ row field.MaximumVoltage (unit.Volts 50) 29 20
    ∷ row field.Power (unit.Watts 250) 9 0 ∷ []
rows_of object.SinkVariableSupply =
    row field.MinimumVoltage (unit.Volts 50) 19 10
    ∷ row field.MaximumVoltage (unit.Volts 50) 29 20
    ∷ row field.Current (unit.Amperes 10) 9 0 ∷ []
rows_of object.Request =
    row field.Position unit.Number 30 28
    ∷ row field.OperatingCurrent (unit.Amperes 10) 19 10
    ∷ row field.MaximumCurrent (unit.Amperes 10) 9 0
    ∷ flag_row flag.CapabilityMismatch 26
    ∷ flag_row flag.UsbCommunicationsCapable 25
    ∷ flag_row flag.NoUsbSuspend 24
    ∷ flag_row flag.UnchunkedExtendedMessages 23 ∷ []
rows_of object.GiveBackRequest =
    row field.Position unit.Number 30 28
    ∷ row field.OperatingCurrent (unit.Amperes 10) 19 10
    ∷ row field.MinimumCurrent (unit.Amperes 10) 9 0
    ∷ flag_row flag.GiveBack 27
    ∷ flag_row flag.CapabilityMismatch 26
    ∷ flag_row flag.UsbCommunicationsCapable 25
    ∷ flag_row flag.NoUsbSuspend 24
    ∷ flag_row flag.UnchunkedExtendedMessages 23 ∷ []
rows_of object.StructuredHeader =
    row field.Command unit.Command 4 0
    ∷ row field.CommandType unit.CommandType 7 6
    ∷ row field.Vendor unit.Identifier 31 16 ∷ []
rows_of object.VendorHeader =
    row field.Vendor unit.Identifier 31 16 ∷ []
rows_of object.IdHeader =
    row field.ProductType unit.Number 29 27
    ∷ row field.Vendor unit.Identifier 15 0
    ∷ flag_row flag.UsbHost 31
    ∷ flag_row flag.UsbDevice 30 ∷ []
rows_of object.CableIdHeader =
    row field.ProductType unit.CableType 29 27
    ∷ row field.Vendor unit.Identifier 15 0 ∷ []
rows_of object.PassiveCable =
    row field.Rating unit.Rating 6 5 ∷ []
rows_of object.Other = []
