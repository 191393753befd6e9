-- What is worked out once after each step of a port: what falls due on it but for events, and whether it asks anything then.
use Rattle.std.specs.Prelude.{◌≡◌, ℕ, Bool, false, Option, None, Some, is_some}
use Rattle.std.proofs.Common.{refl, ap, sym, ◌∙◌}
use Rattle.pd_port.specs.declared.due.Due.{Due}
use Rattle.pd_port.specs.declared.due.What.{What}
use Rattle.pd_port.specs.declared.due.What.TheVariants as what
use Rattle.pd_port.specs.Port.{PortData, due, ask}
use Rattle.pd_port.specs.OwnDue.{told_due}
use Rattle.pd_port.specs.declared.own_due.OwnDue.{OwnDue}
use Rattle.pd_port.specs.declared.own_due.OwnDue.TheVariants as own

-- what falls due on a port but for events
abbrev pub own_due : PortData → Option Due
own_due p = due p.port_record None

-- whether a port asks anything of the shared budget at a due, where there is one
abbrev pub asks_at : PortData → Option Due → Bool
asks_at p None = false
asks_at p (Some d) = is_some (ask p.settings p.port_record d)

-- it is kept in this way: an event is none that is a port's own
abbrev pub own_at : ℕ → What → OwnDue
own_at time (what.Event e) = own.Nothing
own_at time what.Line = own.Line time
own_at time (what.Timer side timer) = own.Timer side timer time

abbrev pub own_of : Option Due → OwnDue
own_of None = own.Nothing
own_of (Some d) = own_at d.time d.what

-- and what is kept tells it
own_of_told : (own : OwnDue) → own_of (told_due own) ≡ own
own_of_told own.Nothing = refl
own_of_told (own.Line time) = refl
own_of_told (own.Timer side timer time) = refl

pub own_is : (own : OwnDue) (d : Option Due) → told_due own ≡ d → own_of d ≡ own
own_is own d h = ap own_of (sym h) ∙ own_of_told own
