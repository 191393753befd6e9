-- How a line that begins with `expect` or `lose` goes on, a row for each beginning: the forms at the head of Lines.antt, word by word.
use Rattle.std.specs.Prelude.{Bool, true, false, List, [], ◌∷◌}
use Rattle.pd_expect.specs.declared.slot.Slot.{Slot}
use Rattle.pd_expect.specs.declared.slot.Slot.TheVariants as slot
use Rattle.pd_expect.specs.declared.rows.Begun.{Begun}
use Rattle.pd_expect.specs.declared.rows.Begun.TheVariants as begun
use Rattle.pd_expect.specs.declared.rows.Row.{Row}

-- a word that may follow, and the beginning that it makes
infix 20 ◌⇒◌
abbrev pub ◌⇒◌ : Slot → Begun → Row
slot ⇒ to = record { slot = slot; to = to }

abbrev pub rows : Begun → List Row
rows begun.Start = (slot.Expect ⇒ begun.Expected) ∷ (slot.Lose ⇒ begun.LostNth) ∷ []
rows begun.Expected = (slot.Contract ⇒ begun.ContractPort) ∷ (slot.No ⇒ begun.Nothing) ∷ (slot.Margin ⇒ begun.MarginLeast) ∷ (slot.Faults ⇒ begun.HowMany) ∷ (slot.Fault ⇒ begun.FaultPort) ∷ (slot.Packet ⇒ begun.PacketPort) ∷ []
rows begun.ContractPort = (slot.Port ⇒ begun.ContractWhen) ∷ []
rows begun.ContractWhen = (slot.At ⇒ begun.ContractTo) ∷ (slot.From ⇒ begun.ContractFrom) ∷ (slot.To ⇒ begun.ContractTo) ∷ []
rows begun.ContractFrom = (slot.Time ⇒ begun.ContractUntil) ∷ []
rows begun.ContractUntil = (slot.To ⇒ begun.ContractTo) ∷ (slot.Voltage ⇒ begun.Volts) ∷ (slot.Current ⇒ begun.Amperes) ∷ (slot.Power ⇒ begun.PowerLeast) ∷ []
rows begun.ContractTo = (slot.Time ⇒ begun.SuchContract) ∷ []
rows begun.SuchContract = (slot.Voltage ⇒ begun.Volts) ∷ (slot.Current ⇒ begun.Amperes) ∷ (slot.Power ⇒ begun.PowerLeast) ∷ []
rows begun.Volts = (slot.Volts ⇒ begun.SuchCurrent) ∷ []
rows begun.SuchCurrent = (slot.Current ⇒ begun.Amperes) ∷ (slot.Power ⇒ begun.PowerLeast) ∷ []
rows begun.Amperes = (slot.Amperes ⇒ begun.SuchPower) ∷ []
rows begun.SuchPower = (slot.Power ⇒ begun.PowerLeast) ∷ []
rows begun.PowerLeast = (slot.AtLeast ⇒ begun.LastWatts) ∷ []
rows begun.LastWatts = (slot.Watts ⇒ begun.Whole) ∷ []
rows begun.Nothing = (slot.Contract ⇒ begun.NoContractPort) ∷ (slot.Fault ⇒ begun.NoFault) ∷ []
rows begun.NoContractPort = (slot.Port ⇒ begun.When) ∷ []
rows begun.NoFault = (slot.Port ⇒ begun.NoFaultOn) ∷ (slot.Text ⇒ begun.AnyTime) ∷ (slot.Opening ⇒ begun.NoFaultText) ∷ (slot.At ⇒ begun.LastTime) ∷ (slot.From ⇒ begun.LastFrom) ∷ (slot.To ⇒ begun.LastTime) ∷ []
rows begun.NoFaultOn = (slot.Text ⇒ begun.AnyTime) ∷ (slot.Opening ⇒ begun.NoFaultText) ∷ (slot.At ⇒ begun.LastTime) ∷ (slot.From ⇒ begun.LastFrom) ∷ (slot.To ⇒ begun.LastTime) ∷ []
rows begun.NoFaultText = (slot.Closing ⇒ begun.AnyTime) ∷ (slot.Inner ⇒ begun.NoFaultText) ∷ []
rows begun.MarginLeast = (slot.AtLeast ⇒ begun.MarginWatts) ∷ []
rows begun.MarginWatts = (slot.Watts ⇒ begun.AnyTime) ∷ []
rows begun.HowMany = (slot.NoFaults ⇒ begun.Whole) ∷ (slot.Port ⇒ begun.AtMost) ∷ []
rows begun.AtMost = (slot.AtMost ⇒ begun.Most) ∷ []
rows begun.Most = (slot.Number ⇒ begun.Buts) ∷ []
rows begun.Buts = (slot.But ⇒ begun.But) ∷ []
rows begun.But = (slot.Text ⇒ begun.Buts) ∷ (slot.Opening ⇒ begun.ButText) ∷ []
rows begun.ButText = (slot.Closing ⇒ begun.Buts) ∷ (slot.Inner ⇒ begun.ButText) ∷ []
rows begun.FaultPort = (slot.Port ⇒ begun.Fault) ∷ []
rows begun.Fault = (slot.Text ⇒ begun.Whole) ∷ (slot.Opening ⇒ begun.FaultText) ∷ []
rows begun.FaultText = (slot.Closing ⇒ begun.Whole) ∷ (slot.Inner ⇒ begun.FaultText) ∷ []
rows begun.PacketPort = (slot.Port ⇒ begun.PacketSide) ∷ []
rows begun.PacketSide = (slot.Side ⇒ begun.PacketName) ∷ []
rows begun.PacketName = (slot.Name ⇒ begun.Between) ∷ []
rows begun.Between = (slot.Between ⇒ begun.FirstTime) ∷ []
rows begun.FirstTime = (slot.Time ⇒ begun.LastTime) ∷ []
rows begun.LostNth = (slot.Nth ⇒ begun.LostName) ∷ []
rows begun.LostName = (slot.Name ⇒ begun.LostOf) ∷ []
rows begun.LostOf = (slot.Of ⇒ begun.LostOn) ∷ []
rows begun.LostOn = (slot.OnPort ⇒ begun.LastPort) ∷ []
rows begun.AnyTime = (slot.At ⇒ begun.LastTime) ∷ (slot.From ⇒ begun.LastFrom) ∷ (slot.To ⇒ begun.LastTime) ∷ []
rows begun.When = (slot.At ⇒ begun.LastTime) ∷ (slot.From ⇒ begun.LastFrom) ∷ (slot.To ⇒ begun.LastTime) ∷ []
rows begun.LastFrom = (slot.Time ⇒ begun.LastUntil) ∷ []
rows begun.LastUntil = (slot.To ⇒ begun.LastTime) ∷ []
rows begun.LastTime = (slot.Time ⇒ begun.Whole) ∷ []
rows begun.LastPort = (slot.Port ⇒ begun.Whole) ∷ []
rows begun.Whole = []

-- a line may end behind such a beginning
abbrev pub may_end : Begun → Bool
may_end begun.Whole = true
may_end begun.ContractUntil = true
may_end begun.SuchContract = true
may_end begun.SuchCurrent = true
may_end begun.SuchPower = true
may_end begun.NoFault = true
may_end begun.NoFaultOn = true
may_end begun.AnyTime = true
may_end begun.LastUntil = true
may_end begun.Buts = true
may_end _ = false
