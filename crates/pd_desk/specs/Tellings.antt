-- What the desk has of other commands: the transcript, the picture, the warnings, the guarantee, the sweep, the rows of varied values
-- and the tests of a scenario.
use Rattle.std.specs.Prelude.{◌≡◌, ◌<◌, ◌-◌, ◌^◌, ℕ, Bool, not, List, [], ◌∷◌, ◌++◌, codes, Option, Some, None, false}
use Rattle.std.specs.List.{flat_map}
use Rattle.pd_scenario.specs.Scenarios.{ScenarioData}
use Rattle.pd_scenario.specs.Plans.{plan_of}
use Rattle.pd_show.specs.Choices.{whole}
use Rattle.pd_show.specs.Show.{WroteRun}
use Rattle.pd_show.specs.declared.choice.Choice.{Choice}
use Rattle.pd_chart.specs.declared.look.Look.{Look}
use Rattle.pd_draw.specs.Picture.{DrewRun}
use Rattle.pd_warn.specs.Warnings.{AreWarnings}
use Rattle.pd_warn.specs.declared.warning.Warning.{Warning}
use Rattle.pd_explain_text.specs.Sentences.{sentence}
use Rattle.pd_guarantee.specs.Charger.{charger_of}
use Rattle.pd_guarantee.specs.Tellings.{charger_text}
use Rattle.pd_text.specs.declared.piece.Form.TheVariants.{Words}
use Rattle.pd_sweep.specs.Sweeps.{WroteSweep}
use Rattle.pd_sweep.specs.declared.choice.Campaign.{Campaign}
use Rattle.pd_sweep.specs.declared.choice.Loss.TheVariants.{Lost}
use Rattle.pd_sweep.specs.declared.form.Form.TheVariants as sweep_form
use Rattle.pd_sweep.specs.declared.form.Look.{Look as SweepLook}
use Rattle.pd_sweep.specs.declared.tally.Tally.{Tally}
use Rattle.pd_vary.specs.Varies.{WroteRows, sets_of}
use Rattle.pd_vary.specs.declared.outcome.Outcome.{Outcome}
use Rattle.pd_vary.specs.declared.walk.Question.{Question}
use Rattle.pd_desk.specs.Varying.{asks_for, varied_of}
use Rattle.pd_desk.specs.declared.colon.Losses.{Losses}
use Rattle.pd_expect.specs.Named.{script_lines}
use Rattle.pd_expect.specs.Cases.{cases_text, tally_of}
use Rattle.pd_expect.specs.Tests.{Tests}
use Rattle.pd_expect.specs.Words.{tally_words}
use Rattle.pd_expect.specs.declared.case.Case.{Case}

-- all that there is to show: of one port, or of all
abbrev pub shown_of : Option ℕ → Choice
shown_of port = record whole { port = port }

-- the text is the transcript of the scenario's run
abbrev pub TellsShow : ScenarioData → Option ℕ → List ℕ → Type 0
TellsShow s port text = WroteRun (plan_of s) (shown_of port) (Some []) (Some text)

-- a picture of all ports from the start to the end, 1,200 pixels wide
abbrev pub whole_look : Look
whole_look = record { from = 0; to = 18446744073709551615; width = 1200; port = None; holds = false }

-- the text is the picture of the scenario's run
abbrev pub Draws : ScenarioData → List ℕ → Type 0
Draws s text = DrewRun (plan_of s) whole_look [] text

-- a line for each warning
abbrev pub warned_line : Warning → List ℕ
warned_line w = sentence w ++ 10 ∷ []

abbrev pub warned_text : List Warning → List ℕ
warned_text ws = flat_map (λ w. warned_line w) ws

-- behind a head, what a scenario of n ports is warned of
abbrev pub TellsWarned : ℕ → ScenarioData → List ℕ → Type 0
TellsWarned n s text = (ws : List Warning) × AreWarnings n s ws × (text ≡ codes "= warnings\n" ++ warned_text ws)

-- behind a head, what is sure for each port of the scenario's charger
abbrev pub TellsGuarantee : ScenarioData → List ℕ → Type 0
TellsGuarantee s text = text ≡ codes "= guarantee\n" ++ charger_text Words (charger_of s)

-- which packets are lost, each in a run of its own
abbrev pub campaign_of : Losses → Campaign
campaign_of losses = record {
  choice = record { port = losses.port; from = losses.from; to = losses.to; kind = None };
  loss = Lost;
  behind = 0;
  any = 1;
  most = 2 ^ 64 - 1;
  reserve = None;
}

-- in words, each of them or those whose loss makes a difference
abbrev pub sweep_look : Bool → SweepLook
sweep_look all = record { form = sweep_form.Words; changed = not all; by_message = false }

-- behind a head, what losing these packets of a scenario of n ports leads to, and what that comes to in all
abbrev pub TellsTrials : ℕ → ScenarioData → Losses → Tally → List ℕ → Type 0
TellsTrials n s losses tally text =
    WroteSweep n s (campaign_of losses) None (sweep_look losses.all) (Some (codes "= sweep\n")) (Some text) tally

-- the same, where a packet was tried
abbrev pub TellsSweep : ℕ → ScenarioData → Losses → List ℕ → Type 0
TellsSweep n s losses text = (tally : Tally) × (0 < tally.tried) × TellsTrials n s losses tally text

-- none was
abbrev pub TriesNone : ℕ → ScenarioData → Losses → Type 0
TriesNone n s losses = (tally : Tally) × (text : List ℕ) × (tally.tried ≡ 0) × TellsTrials n s losses tally text

-- behind a head, a row of a scenario of n ports for each combination of the values that a question has
abbrev pub TellsRows : ℕ → ScenarioData → Question → List ℕ → Type 0
TellsRows n s question text = (kept : List Outcome) × WroteRows n s question kept (Some (codes "= vary\n")) (Some text)

-- the same of the values that a line names, in words, with what the line asks of each row and nothing that is expected
abbrev pub TellsVaried : ℕ → ScenarioData → List ℕ → List ℕ → Type 0
TellsVaried n s line text =
    (question : Question) × (varied_of line ≡ asks_for (sets_of question) question.asks.now) × (question.wheres.now ≡ [])
    × (question.form ≡ sweep_form.Words) × TellsRows n s question text

-- what is told of the lines of a test script of this name, over a scenario of n ports, and how many of them passed and failed
abbrev pub TellsTests : ℕ → ScenarioData → List ℕ → List ℕ → List ℕ → Type 0
TellsTests n s name script text =
    (cases : List Case) × Tests n s name 1 (script_lines script) cases
    × (text ≡ cases_text Words false name cases ++ tally_words (tally_of cases))
