-- What the calls answer: each by how it ended and by the text that it tells.
use Rattle.std.specs.Prelude.{◌≡◌, ◌≢◌, ℕ, ◌<◌, true, false, List, [], ◌++◌, length, Option, Some, None}
use Rattle.std.specs.Str.Lines.{lines}
use Rattle.pd_scenario.specs.Plans.{plan_of}
use Rattle.pd_scenario.specs.Scenarios.{ScenarioData}
use Rattle.pd_scenario_tables.specs.declared.fault.ScenarioFault.{ScenarioFault}
use Rattle.pd_scenario_tables.specs.declared.fault.ScenarioFault.TheVariants.{Memory}
use Rattle.pd_scenario_text.specs.Texts.{IsRefused}
use Rattle.pd_bench.specs.Texts.{IsAnswered}
use Rattle.pd_scene.specs.Scene.{OfScene, has_port}
use Rattle.pd_scene.specs.Script.{followed}
use Rattle.pd_show.specs.Show.{WroteRun}
use Rattle.pd_show.specs.declared.choice.Choice.{Choice}
use Rattle.pd_chart.specs.declared.look.Look.{Look}
use Rattle.pd_draw.specs.Picture.{DrewRun}
use Rattle.pd_text.specs.declared.piece.Form.TheVariants as form
use Rattle.pd_why.specs.Answers.{TellsWhy}
use Rattle.pd_why.specs.declared.question.Question.{Question}
use Rattle.pd_guarantee.specs.Charger.{charger_of}
use Rattle.pd_guarantee.specs.Tellings.{charger_text}
use Rattle.pd_sweep.specs.Counts.{HasPackets}
use Rattle.pd_sweep.specs.Sweeps.{WroteSweep}
use Rattle.pd_sweep.specs.declared.choice.Campaign.{Campaign}
use Rattle.pd_sweep.specs.declared.choice.Choice.{Choice as Packets}
use Rattle.pd_sweep.specs.declared.part.Part.{Part}
use Rattle.pd_sweep.specs.declared.tally.Tally.{Tally}
use Rattle.pd_save.specs.EditLines.{Lists}
use Rattle.pd_expect.specs.Named.{script_lines}
use Rattle.pd_expect.specs.Cases.{cases_text, tally_of}
use Rattle.pd_expect.specs.Tests.{Tests}
use Rattle.pd_expect.specs.Words.{tally_object}
use Rattle.pd_expect.specs.declared.case.Case.{Case}
use Rattle.pd_page.specs.Choices.{each_packet}
use Rattle.pd_page.specs.Logs.{TellsLog}
use Rattle.pd_page.specs.declared.ending.Ending.{Ending}
use Rattle.pd_page.specs.declared.ending.Ending.TheVariants.{Done, Refused, NoSuchPort, NoMemory, TooLong}

-- the text has no scenario, for a reason of its own and not for want of memory
abbrev pub IsNoScenario : List ℕ → Type 0
IsNoScenario text = (fault : ScenarioFault) × (fault ≢ Memory) × IsRefused text fault

-- ---- a session: what is written for the scenario of a text, over a script

abbrev pub Runs : List ℕ → List ℕ → Ending → List ℕ → Type 0
Runs script text Done out = IsAnswered text script out
Runs script text Refused out = IsNoScenario text × (out ≡ [])
Runs script text NoSuchPort out = ⊥
Runs script text NoMemory out = out ≡ []
Runs script text TooLong out = (16777216 < length script) × (out ≡ [])

-- ---- what is told of the scenario of a text

-- The answer is what is told of the scenario, where that has the port which is chosen, if one is; else the call has no answer.
abbrev pub Tells : {X : Type 0} → X → Option ℕ → (ℕ → ScenarioData → X → Type 0) → List ℕ → Ending → X → Type 0
Tells none port told text Done out = OfScene text (λ n s. (has_port n port ≡ true) × told n s out)
Tells none port told text Refused out = IsNoScenario text × (out ≡ none)
Tells none port told text NoSuchPort out = OfScene text (λ n s. (has_port n port ≡ false) × (out ≡ none))
Tells none port told text NoMemory out = out ≡ none
Tells none port told text TooLong out = ⊥

-- a scenario as a script leaves it; a line that is refused changes nothing
abbrev pub left_by : List ℕ → ℕ → ScenarioData → ScenarioData
left_by script n s = followed n s (lines script)

-- the picture of its run
abbrev pub Draws : Look → List ℕ → List ℕ → Ending → List ℕ → Type 0
Draws look script = Tells [] look.port (λ n s out. DrewRun (plan_of (left_by script n s)) look [] out)

-- its run, shown
abbrev pub Shows : Choice → List ℕ → List ℕ → Ending → List ℕ → Type 0
Shows choice script = Tells [] choice.port (λ n s out. WroteRun (plan_of (left_by script n s)) choice (Some []) (Some out))

-- what bounds a port of it
abbrev pub Asks : Question → List ℕ → List ℕ → Ending → List ℕ → Type 0
Asks question script =
    Tells [] (Some question.port) (λ n s out. TellsWhy form.Json (plan_of (left_by script n s)) question [] out)

-- what is sure for each port of its charger
abbrev pub Guarantees : List ℕ → List ℕ → Ending → List ℕ → Type 0
Guarantees script = Tells [] None (λ n s out. out ≡ charger_text form.Json (charger_of (left_by script n s)))

-- a part of its sweep, and the summary of that part
abbrev pub Sweeps : Campaign → Part → List ℕ → List ℕ → Ending → List ℕ → Type 0
Sweeps campaign part script =
    Tells [] campaign.choice.port
    (λ n s out. (tally : Tally) × WroteSweep n (left_by script n s) campaign (Some part) each_packet (Some []) (Some out) tally)

-- how many packets its sweep has
abbrev pub Counts : Packets → List ℕ → List ℕ → Ending → ℕ → Type 0
Counts packets script = Tells 0 packets.port (λ n s count. HasPackets (left_by script n s) packets count)

-- the same as lines of an edit script
abbrev pub ListsEdited : List ℕ → List ℕ → Ending → List ℕ → Type 0
ListsEdited script = Tells [] None (λ n s out. Lists (left_by script n s) out)

-- what is told of the lines of a test script of a name, as JSON objects, of those that pass too, and the counts of these lines
pub record TellsTests (name script : List ℕ) (n : ℕ) (s : ScenarioData) (out : List ℕ) : Type 0 where
  pub cases : List Case
  pub tests : Tests n s name 1 (script_lines script) cases
  pub out_is : out ≡ cases_text form.Json true name cases ++ tally_object (tally_of cases)

abbrev pub TestsScript : List ℕ → List ℕ → List ℕ → Ending → List ℕ → Type 0
TestsScript name script = Tells [] None (TellsTests name script)

-- ---- what the lines of a log say

abbrev pub Decodes : List ℕ → Ending → List ℕ → Type 0
Decodes log Done out = TellsLog 1 None (lines log) out
Decodes log NoMemory out = out ≡ []
Decodes log _ out = ⊥
