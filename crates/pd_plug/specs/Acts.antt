-- What each act of a row does to the engine, and what it wants of the port.
use Rattle.std.specs.Prelude.{ℕ, false, List, [], ◌∷◌, ◌++◌, Option, Some, None}
use Rattle.pd_timers.specs.declared.Timer.TheVariants.{Delay}
use Rattle.pd_timers.specs.Deadlines.{idle, started}
use Rattle.pd_identity.specs.declared.Cable.{Cable}
use Rattle.pd_identity.specs.Identity.{answer_of}
use Rattle.pd_plug.specs.declared.kinds.Act.{Act}
use Rattle.pd_plug.specs.declared.kinds.Act.TheVariants as act
use Rattle.pd_plug.specs.declared.kinds.Deed.{Deed}
use Rattle.pd_plug.specs.declared.kinds.Deed.TheVariants as deed
use Rattle.pd_plug.specs.Record.{PlugRecord}

-- the objects that the attached cable answers
abbrev pub identity_of : Option Cable → List ℕ
identity_of None = []
identity_of (Some cable) = answer_of cable

-- the engine after an act
abbrev pub after : Deed → ℕ → PlugRecord → PlugRecord
after (deed.Enter s) now r = record r { state = s; deadlines = idle; sent = false }
after deed.StartDelay now r = record r { deadlines = started r.deadlines now Delay }
after deed.SendIdentity now r = r

-- what an act wants of the port
abbrev pub wants : Deed → PlugRecord → List Act
wants (deed.Enter s) r = act.DropWaiting ∷ []
wants deed.SendIdentity r = act.SendIdentity (record { items = identity_of r.cable }) ∷ []
wants _ r = []

-- the engine after all acts of a row, in order
abbrev pub all_after : List Deed → ℕ → PlugRecord → PlugRecord
all_after [] now r = r
all_after (d ∷ ds) now r = all_after ds now (after d now r)

-- what all acts of a row want of the port
abbrev pub all_wants : List Deed → ℕ → PlugRecord → List Act
all_wants [] now r = []
all_wants (d ∷ ds) now r = wants d r ++ all_wants ds now (after d now r)
