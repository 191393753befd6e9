-- What is known of a port from the moves that it has made: how its cable's limit became known, and by what its sink chose when it sent
-- its last Request.
use Rattle.std.specs.Prelude.{not, ◌&&◌, Bool, true, false, if◌then◌else◌, Option, Some, None}
use Rattle.std.specs.List.{list_any}
use Rattle.pd_line.specs.declared.notes.Fault.{Fault}
use Rattle.pd_line.specs.declared.notes.Fault.TheVariants as fault
use Rattle.pd_port.specs.declared.entry.Entry.{Entry}
use Rattle.pd_port.specs.Happens.{is_detach}
use Rattle.pd_why.specs.declared.cable.CableLimit.{CableLimit}
use Rattle.pd_why.specs.declared.known.Known.{Known}
use Rattle.pd_why.specs.declared.look.Look.{Look}

abbrev pub nothing : Known
nothing = record { cable = None; wish = None }

abbrev pub is_ignored : Fault → Bool
is_ignored (fault.Ignored id) = true
is_ignored f = false

-- the cable is pulled out: where nothing is attached, that event is ignored
abbrev pub pulls_out : Entry → Bool
pulls_out e = is_detach e.due.what && not (list_any is_ignored e.faults.items)

-- what was learnt, or else what was known before
abbrev pub learnt_after : Option CableLimit → Option CableLimit → Option CableLimit
learnt_after None known = known
learnt_after (Some how) known = Some how

-- what is known after one more move
abbrev pub known_after : Look → Known → Known
known_after look known = record {
  cable = if pulls_out look.entry then None else learnt_after look.learnt known.cable;
  wish = if look.asks then look.wish else known.wish;
}
