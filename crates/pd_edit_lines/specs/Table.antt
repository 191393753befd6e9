-- How a line of an edit script goes on, a row for each beginning: the table of lines in docs/FORMATS.md, "Edit script".
use Rattle.std.specs.Prelude.{Bool, true, false, List, [], ◌∷◌}
use Rattle.pd_edit_lines.specs.declared.slot.Slot.{Slot}
use Rattle.pd_edit_lines.specs.declared.slot.Slot.TheVariants as slot
use Rattle.pd_edit_lines.specs.declared.rows.Front.{Front}
use Rattle.pd_edit_lines.specs.declared.rows.Front.TheVariants as front
use Rattle.pd_edit_lines.specs.declared.rows.Row.{Row}

-- a word that may follow, and the beginning that it makes
infix 20 ◌⇒◌
abbrev pub ◌⇒◌ : Slot → Front → Row
slot ⇒ to = record { slot = slot; to = to }

abbrev pub rows : Front → List Row
rows front.Start = (slot.Insert ⇒ front.InsertId) ∷ (slot.Remove ⇒ front.LastId) ∷ (slot.Move ⇒ front.MoveId) ∷ (slot.Change ⇒ front.ChangeId) ∷ (slot.Cable ⇒ front.CableName) ∷ (slot.Sink ⇒ front.SinkName) ∷ (slot.Caps ⇒ front.CapsPort) ∷ (slot.Floor ⇒ front.FloorPort) ∷ (slot.Budget ⇒ front.LastMw) ∷ (slot.End ⇒ front.LastAt) ∷ (slot.Show ⇒ front.Shown) ∷ []
rows front.InsertId = (slot.Id ⇒ front.InsertAt) ∷ []
rows front.InsertAt = (slot.At ⇒ front.InsertPort) ∷ []
rows front.InsertPort = (slot.Port ⇒ front.Kind) ∷ (slot.Budget ⇒ front.LastMw) ∷ []
rows front.MoveId = (slot.Id ⇒ front.LastAt) ∷ []
rows front.ChangeId = (slot.Id ⇒ front.Kind) ∷ []
rows front.Kind = (slot.Attach ⇒ front.AttachCable) ∷ (slot.Detach ⇒ front.Whole) ∷ (slot.Demand ⇒ front.LastMw) ∷ (slot.Lose ⇒ front.Whole) ∷ (slot.Damage ⇒ front.DamagePlace) ∷ (slot.GetSource ⇒ front.Whole) ∷ (slot.GetSink ⇒ front.Whole) ∷ []
rows front.AttachCable = (slot.CableName ⇒ front.AttachSink) ∷ []
rows front.AttachSink = (slot.SinkName ⇒ front.Whole) ∷ []
rows front.DamagePlace = (slot.Place ⇒ front.DamageMask) ∷ []
rows front.DamageMask = (slot.Mask ⇒ front.Whole) ∷ []
rows front.CableName = (slot.Name ⇒ front.CablePlug) ∷ []
rows front.CablePlug = (slot.Plug ⇒ front.CableRating) ∷ (slot.Drop ⇒ front.Whole) ∷ []
rows front.CableRating = (slot.Rating ⇒ front.Whole) ∷ []
rows front.SinkName = (slot.Name ⇒ front.SinkMax) ∷ []
rows front.SinkMax = (slot.Max ⇒ front.SinkDemand) ∷ (slot.Drop ⇒ front.Whole) ∷ []
rows front.SinkDemand = (slot.Wanted ⇒ front.SinkMode) ∷ []
rows front.SinkMode = (slot.Mode ⇒ front.SinkRevision) ∷ []
rows front.SinkRevision = (slot.Rev2 ⇒ front.Whole) ∷ (slot.Rev3 ⇒ front.Whole) ∷ []
rows front.CapsPort = (slot.Port ⇒ front.FirstMv) ∷ []
rows front.FirstMv = (slot.Mv ⇒ front.FirstMa) ∷ []
rows front.FirstMa = (slot.Ma ⇒ front.SecondMv) ∷ []
rows front.SecondMv = (slot.Mv ⇒ front.SecondMa) ∷ []
rows front.SecondMa = (slot.Ma ⇒ front.ThirdMv) ∷ []
rows front.ThirdMv = (slot.Mv ⇒ front.ThirdMa) ∷ []
rows front.ThirdMa = (slot.Ma ⇒ front.FourthMv) ∷ []
rows front.FourthMv = (slot.Mv ⇒ front.FourthMa) ∷ []
rows front.FourthMa = (slot.Ma ⇒ front.FifthMv) ∷ []
rows front.FifthMv = (slot.Mv ⇒ front.FifthMa) ∷ []
rows front.FifthMa = (slot.Ma ⇒ front.SixthMv) ∷ []
rows front.SixthMv = (slot.Mv ⇒ front.SixthMa) ∷ []
rows front.SixthMa = (slot.Ma ⇒ front.SeventhMv) ∷ []
rows front.SeventhMv = (slot.Mv ⇒ front.SeventhMa) ∷ []
rows front.SeventhMa = (slot.Ma ⇒ front.Whole) ∷ []
rows front.FloorPort = (slot.Port ⇒ front.LastMw) ∷ []
rows front.Shown = (slot.Transcript ⇒ front.LastPort) ∷ (slot.Contracts ⇒ front.Whole) ∷ (slot.Faults ⇒ front.Whole) ∷ (slot.Margins ⇒ front.Whole) ∷ []
rows front.LastId = (slot.Id ⇒ front.Whole) ∷ []
rows front.LastAt = (slot.At ⇒ front.Whole) ∷ []
rows front.LastMw = (slot.Mw ⇒ front.Whole) ∷ []
rows front.LastPort = (slot.Port ⇒ front.Whole) ∷ []
rows front.Whole = []

-- a line may end behind such a beginning
abbrev pub may_end : Front → Bool
may_end front.Whole = true
may_end front.SinkRevision = true
may_end front.SecondMv = true
may_end front.ThirdMv = true
may_end front.FourthMv = true
may_end front.FifthMv = true
may_end front.SixthMv = true
may_end front.SeventhMv = true
may_end _ = false
