-- The words of a scenario file alone, and its numbers that stand for a choice: docs/FORMATS.md, "Scenario file".
use Rattle.std.specs.Prelude.{ℕ, ℤ, pos, List, Option, Some, None, codes, bytes_eq, if◌then◌else◌}
use Rattle.std.specs.Ordering.{int_eq}
use Rattle.pd_setup.specs.Events.{KindWord}
use Rattle.pd_setup.specs.declared.sink.SinkRevision.{SinkRevision}
use Rattle.pd_setup.specs.declared.sink.SinkRevision.TheVariants.{Revision2, Revision3}
use Rattle.pd_scenario.specs.Words.{kind_of}
use Rattle.pd_scenario_tables.specs.declared.schema.Version.{Version}
use Rattle.pd_scenario_tables.specs.declared.schema.Version.TheVariants.{One, Two}
use Rattle.pd_scenario_tables.specs.declared.schema.EventName.{EventName}
use Rattle.pd_scenario_tables.specs.declared.schema.EventName.TheVariants.{OnPort, Budget, Unknown}

abbrev pub revision_of : ℤ → Option SinkRevision
revision_of number =
    if int_eq number (pos 2) then Some Revision2
    else if int_eq number (pos 3) then Some Revision3
    else None

abbrev pub version_of : ℤ → Option Version
version_of number =
    if int_eq number (pos 1) then Some One
    else if int_eq number (pos 2) then Some Two
    else None

-- a word that is no kind of event of a port; a change of the budget is known to the second version alone
abbrev pub other_event : Version → List ℕ → EventName
other_event One word = Unknown
other_event Two word = if bytes_eq word (codes "budget") then Budget else Unknown

abbrev pub named_event : Version → List ℕ → Option KindWord → EventName
named_event version word (Some kind) = OnPort kind
named_event version word None = other_event version word

-- what the word of an event's kind says
abbrev pub event_named : Version → List ℕ → EventName
event_named version word = named_event version word (kind_of word)
