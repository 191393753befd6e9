-- The words by which scenario files and edit scripts write a kind of event, a cable's plug and a sink's mode, and the number
-- by which they write a cable's rating: this product's own, docs/FORMATS.md, "Scenario file" and "Edit script".
use Rattle.std.specs.Prelude.{ℕ, List, ◌==◌, Option, Some, None, codes, bytes_eq, if◌then◌else◌}
use Rattle.pd_identity.specs.declared.CablePlug.{CablePlug}
use Rattle.pd_identity.specs.declared.CablePlug.TheVariants.{Absent, Ack, Nak, Busy, Silent}
use Rattle.pd_identity.specs.declared.Rating.{Rating}
use Rattle.pd_identity.specs.declared.Rating.TheVariants.{ThreeAmperes, FiveAmperes}
use Rattle.pd_setup.specs.Events.{KindWord}
use Rattle.pd_setup.specs.declared.event.EventKind.TheVariants.{Attach, Detach, Demand, Lose, Damage, GetSource, GetSink}
use Rattle.pd_setup.specs.declared.sink.SinkMode.{SinkMode}
use Rattle.pd_setup.specs.declared.sink.SinkMode.TheVariants.{PowerDelivery, Plain, Greedy}

abbrev pub kind_of : List ℕ → Option KindWord
kind_of word =
    if bytes_eq word (codes "attach") then Some (Attach tt tt)
    else if bytes_eq word (codes "detach") then Some Detach
    else if bytes_eq word (codes "demand") then Some (Demand tt)
    else if bytes_eq word (codes "lose") then Some Lose
    else if bytes_eq word (codes "damage") then Some (Damage tt)
    else if bytes_eq word (codes "get_source") then Some GetSource
    else if bytes_eq word (codes "get_sink") then Some GetSink
    else None

abbrev pub plug_of : List ℕ → Option CablePlug
plug_of word =
    if bytes_eq word (codes "none") then Some Absent
    else if bytes_eq word (codes "ack") then Some Ack
    else if bytes_eq word (codes "nak") then Some Nak
    else if bytes_eq word (codes "busy") then Some Busy
    else if bytes_eq word (codes "silent") then Some Silent
    else None

abbrev pub mode_of : List ℕ → Option SinkMode
mode_of word =
    if bytes_eq word (codes "pd") then Some PowerDelivery
    else if bytes_eq word (codes "plain") then Some Plain
    else if bytes_eq word (codes "greedy") then Some Greedy
    else None

-- the ratings of cables, in mA
abbrev pub rating_of : ℕ → Option Rating
rating_of rating = if rating == 3000 then Some ThreeAmperes else if rating == 5000 then Some FiveAmperes else None
