-- The words by which scenario files and edit scripts write a kind of event, a cable's plug and a sink's mode, and the numbers
-- by which they write a cable's rating and a sink's revision: docs/FORMATS.md, "Scenario file" and "Edit script". What each
-- reads as is in Words.antt of pd_scenario and of pd_scenario_tables.
use Rattle.std.specs.Prelude.{ℕ, List, codes}
use Rattle.pd_identity.specs.declared.CablePlug.{CablePlug}
use Rattle.pd_identity.specs.declared.CablePlug.TheVariants.{Absent, Ack, Nak, Busy, Silent}
use Rattle.pd_identity.specs.declared.Rating.{Rating}
use Rattle.pd_identity.specs.declared.Rating.TheVariants.{ThreeAmperes, FiveAmperes}
use Rattle.pd_setup.specs.declared.event.EventKind.TheVariants.{Attach, Detach, Demand, Lose, Damage, GetSource, GetSink}
use Rattle.pd_setup.specs.declared.sink.SinkMode.{SinkMode}
use Rattle.pd_setup.specs.declared.sink.SinkMode.TheVariants.{PowerDelivery, Plain, Greedy}
use Rattle.pd_setup.specs.declared.sink.SinkRevision.{SinkRevision}
use Rattle.pd_setup.specs.declared.sink.SinkRevision.TheVariants.{Revision2, Revision3}
use Rattle.pd_scenario.specs.Events.{ScenarioEventKind}

abbrev pub kind_word : ScenarioEventKind → List ℕ
kind_word (Attach cable sink) = codes "attach"
kind_word Detach = codes "detach"
kind_word (Demand mw) = codes "demand"
kind_word Lose = codes "lose"
kind_word (Damage harm) = codes "damage"
kind_word GetSource = codes "get_source"
kind_word GetSink = codes "get_sink"

abbrev pub plug_word : CablePlug → List ℕ
plug_word Absent = codes "none"
plug_word Ack = codes "ack"
plug_word Nak = codes "nak"
plug_word Busy = codes "busy"
plug_word Silent = codes "silent"

abbrev pub mode_word : SinkMode → List ℕ
mode_word PowerDelivery = codes "pd"
mode_word Plain = codes "plain"
mode_word Greedy = codes "greedy"

-- the ratings of cables, in mA
abbrev pub rating_number : Rating → ℕ
rating_number ThreeAmperes = 3000
rating_number FiveAmperes = 5000

abbrev pub revision_number : SinkRevision → ℕ
revision_number Revision2 = 2
revision_number Revision3 = 3
