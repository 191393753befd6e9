-- What comes of a row: its edits in turn, and what is measured and expected of the run of the scenario that they leave.
use Rattle.std.specs.Prelude.{◌≡◌, ℕ, ◌+◌, Bool, false, List, [], ◌∷◌, map, Option, Result, Ok, Err}
use Rattle.std.specs.List.{list_all}
use Rattle.pd_port.specs.declared.entry.Entry.{Entry}
use Rattle.pd_run.specs.Shown.{Shows}
use Rattle.pd_scenario.specs.Plans.{plan_of}
use Rattle.pd_scenario.specs.Scenarios.{ScenarioData}
use Rattle.pd_edit.specs.Refusals.{edited}
use Rattle.pd_edit_lines.specs.Grammar.{line_of}
use Rattle.pd_edit_lines.specs.declared.fault.EditFault.{EditFault}
use Rattle.pd_edit_lines.specs.declared.fault.EditFault.TheVariants.{Syntax}
use Rattle.pd_edit_lines.specs.declared.line.Line.{Line}
use Rattle.pd_edit_lines.specs.declared.line.Line.TheVariants as line_read
use Rattle.pd_sweep.specs.Measures.{measures_of}
use Rattle.pd_sweep.specs.Summaries.{AreFindings}
use Rattle.pd_sweep.specs.declared.effect.Effect.{Effect}
use Rattle.pd_vary.specs.Asks.{number_of}
use Rattle.pd_vary.specs.Conditions.{AreHeld, holds}
use Rattle.pd_vary.specs.Sets.{SetData, line_with}
use Rattle.pd_vary.specs.declared.ask.Ask.{Ask}
use Rattle.pd_vary.specs.declared.condition.Condition.{Condition}
use Rattle.pd_vary.specs.declared.outcome.Outcome.{Outcome}
use Rattle.pd_vary.specs.declared.outcome.Outcome.TheVariants.{Ran, Refused}
use Rattle.pd_vary.specs.declared.outcome.Refusal.{Refusal}

-- ---- edits

-- the scenario after the edit of a line; a line that is no edit is refused as one of other words
abbrev pub edited_by : ℕ → ScenarioData → Result Line EditFault → Result ScenarioData EditFault
edited_by n c (Ok (line_read.Edit edit)) = edited n c edit
edited_by n c _ = Err Syntax

unfoldable pub edited_line : ℕ → ScenarioData → List ℕ → Result ScenarioData EditFault
edited_line n c line = edited_by n c (line_of line)

abbrev pub then_made : ℕ → Result ScenarioData EditFault → (ScenarioData → Result ScenarioData Refusal) → Result ScenarioData Refusal
then_made number (Ok after) more = more after
then_made number (Err fault) more = Err (record { edit = number; fault = fault })

-- The scenario after the edits of all lines, one after the other; or the number of the first that is refused, and why. The first line has
-- this number.
unfoldable pub made : ℕ → ℕ → List (List ℕ) → ScenarioData → Result ScenarioData Refusal
made n number [] c = Ok c
made n number (line ∷ lines) c = then_made number (edited_line n c line) (made n (number + 1) lines)

-- the lines of sets with these values in their places
unfoldable pub lines_with : List SetData → List (List ℕ) → List (List ℕ)
lines_with (s ∷ sets) (value ∷ values) = line_with s value ∷ lines_with sets values
lines_with _ _ = []

-- ---- what is found

-- What is asked of the run of a scenario, beside the run of another, the base; and the verdicts on what is expected of it. Both runs are
-- safe.
pub record AreFound (base v : ScenarioData) (asks : List Ask) (wheres : List Condition) (numbers : List (Option ℕ))
    (verdicts : List (Option Bool)) : Type 0 where
  pub before : List (ℕ × Entry)
  pub before_shows : Shows (plan_of base) before
  pub moves : List (ℕ × Entry)
  pub shows : Shows (plan_of v) moves
  pub effect : Effect
  pub found : AreFindings (plan_of v) moves effect.findings
  pub measures : effect.measures ≡ measures_of (plan_of base).end before moves
  pub numbers_are : numbers ≡ map (number_of moves effect) asks
  pub held : AreHeld (plan_of v) moves wheres verdicts

-- what comes of a row, by the scenario that its edits leave, or the edit that is refused: then nothing is run
abbrev pub IsOutcome : ScenarioData → List Ask → List Condition → Result ScenarioData Refusal → Outcome → Type 0
IsOutcome base asks wheres (Ok v) (Ran numbers verdicts) = AreFound base v asks wheres numbers.items verdicts.items
IsOutcome base asks wheres (Err refusal) (Refused other) = other ≡ refusal
IsOutcome base asks wheres _ _ = ⊥

-- all that is expected holds
abbrev pub all_hold : Outcome → Bool
all_hold (Refused refusal) = false
all_hold (Ran numbers verdicts) = list_all holds verdicts.items
