-- What falls due on a port but for events, in less room.
use Rattle.std.specs.Prelude.{Option, Some, None}
use Rattle.pd_port.specs.declared.due.Due.{Due}
use Rattle.pd_port.specs.declared.due.What.TheVariants as what
use Rattle.pd_port.specs.declared.own_due.OwnDue.{OwnDue}
use Rattle.pd_port.specs.declared.own_due.OwnDue.TheVariants as own

-- it is this due
abbrev pub told_due : OwnDue → Option Due
told_due own.Nothing = None
told_due (own.Line time) = Some (record { time = time; what = what.Line })
told_due (own.Timer side timer time) = Some (record { time = time; what = what.Timer side timer })
