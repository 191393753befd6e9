-- The names of fields: the standard's words, in this product's spelling.
use Rattle.std.specs.Prelude.{ℕ, List, [], codes}
use Rattle.pd_content.specs.declared.field.Field.{Field}
use Rattle.pd_content.specs.declared.field.Field.TheVariants as field
use Rattle.pd_content.specs.declared.field.FlagName.{FlagName}
use Rattle.pd_content.specs.declared.field.FlagName.TheVariants as flag

abbrev pub flag_of : FlagName → List ℕ
flag_of flag.DualRolePower = codes "dual_role_power"
flag_of flag.UsbSuspendSupported = codes "usb_suspend_supported"
flag_of flag.UnconstrainedPower = codes "unconstrained_power"
flag_of flag.UsbCommunicationsCapable = codes "usb_communications_capable"
flag_of flag.DualRoleData = codes "dual_role_data"
flag_of flag.UnchunkedExtendedMessages = codes "unchunked_extended_messages"
flag_of flag.PowerLimited = codes "power_limited"
flag_of flag.HigherCapability = codes "higher_capability"
flag_of flag.GiveBack = codes "give_back"
flag_of flag.CapabilityMismatch = codes "capability_mismatch"
flag_of flag.NoUsbSuspend = codes "no_usb_suspend"
flag_of flag.UsbHost = codes "usb_host"
flag_of flag.UsbDevice = codes "usb_device"

-- the name without its unit
abbrev pub name_of : Field → List ℕ
name_of field.Id = codes "id"
name_of field.PowerRole = codes "power_role"
name_of field.DataRole = codes "data_role"
name_of field.Sender = codes "sender"
name_of field.Revision = codes "revision"
name_of field.Voltage = codes "voltage"
name_of field.MinimumVoltage = codes "minimum_voltage"
name_of field.MaximumVoltage = codes "maximum_voltage"
name_of field.Current = codes "current"
name_of field.Power = codes "power"
name_of field.PeakCurrent = codes "peak_current"
name_of field.Position = codes "position"
name_of field.OperatingCurrent = codes "operating_current"
name_of field.MinimumCurrent = codes "minimum_current"
name_of field.MaximumCurrent = codes "maximum_current"
name_of field.Vendor = codes "vendor"
name_of field.Command = codes "command"
name_of field.CommandType = codes "command_type"
name_of field.ProductType = codes "product_type"
name_of field.Rating = codes "rating"
name_of (field.Flag name) = flag_of name

-- what stands before the value in a text: a word where the value alone doesn't tell what it is (a flag has its name alone)
abbrev pub lead_of : Field → List ℕ
lead_of field.Id = codes "id "
lead_of field.Sender = codes "from "
lead_of field.Revision = codes "rev "
lead_of field.MinimumVoltage = codes "minimum "
lead_of field.MinimumCurrent = codes "minimum "
lead_of field.MaximumVoltage = codes "maximum "
lead_of field.MaximumCurrent = codes "maximum "
lead_of field.Position = codes "position "
lead_of field.OperatingCurrent = codes "operating "
lead_of field.Vendor = codes "vendor "
lead_of field.ProductType = codes "product type "
lead_of field.Rating = codes "rated "
lead_of field.PeakCurrent = codes "peak current "
lead_of (field.Flag name) = flag_of name
lead_of _ = []
