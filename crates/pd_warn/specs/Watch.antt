-- What is warned of at a step of a port, by what is watched of it.
use Rattle.std.specs.Prelude.{ℕ, Bool, true, false, List, [], ◌∷◌, map, Option, Some}
use Rattle.pd_setup.specs.Events.{PortEventKind}
use Rattle.pd_setup.specs.declared.event.EventKind.TheVariants.{Attach, Detach, Lose, Damage, GetSource, GetSink}
use Rattle.pd_setup.specs.declared.event.Happening.{Happening}
use Rattle.pd_setup.specs.declared.event.Happening.TheVariants as happening
use Rattle.pd_port.specs.declared.due.What.{What}
use Rattle.pd_port.specs.declared.due.What.TheVariants as what
use Rattle.pd_port.specs.declared.entry.Entry.{Entry}
use Rattle.pd_watch.specs.declared.watch.Disturber.{Disturber}
use Rattle.pd_watch.specs.Watch.{WatchData, is_ignored}
use Rattle.pd_warn.specs.declared.warning.Warning.{Warning}
use Rattle.pd_warn.specs.declared.warning.Warning.TheVariants.{Ignored, Unmet}
use Rattle.pd_warn.specs.declared.warning.Why.{Why}
use Rattle.pd_warn.specs.declared.warning.Why.TheVariants.{Attached, Detached, Full, SinkNotReady, SourceNotReady}

-- why a port ignores an event, whether something is attached to it or not (docs/DECISIONS.md, reading 8)
abbrev pub why_of : Bool → PortEventKind → Why
why_of attached (Attach cable device) = Attached
why_of true Lose = Full
why_of true (Damage harm) = Full
why_of true GetSource = SinkNotReady
why_of true GetSink = SourceNotReady
why_of attached _ = Detached

-- a disturbance that waits in vain
abbrev pub unmet : ℕ → Option ℕ → Disturber → Warning
unmet port until d = Unmet d.id d.at port until

-- an event that is ignored, and the disturbances that wait as the cable is pulled out
abbrev pub kind_part : ℕ → WatchData → ℕ → ℕ → Bool → PortEventKind → List Warning
kind_part port w at id true kind = Ignored id at port (why_of w.attached kind) ∷ []
kind_part port w at id false Detach = map (unmet port (Some at)) w.waiting
kind_part port w at id false _ = []

abbrev pub happening_part : ℕ → WatchData → ℕ → Bool → Happening → List Warning
happening_part port w at ignored (happening.Port id kind) = kind_part port w at id ignored kind
happening_part port w at ignored happening.Budget = []

abbrev pub what_part : ℕ → WatchData → ℕ → Bool → What → List Warning
what_part port w at ignored (what.Event e) = happening_part port w at ignored e.happening
what_part port w at ignored _ = []

unfoldable pub entry_part : ℕ → WatchData → Entry → List Warning
entry_part port w e = what_part port w e.at (is_ignored e) e.due.what
