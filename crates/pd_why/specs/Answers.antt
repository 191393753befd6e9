-- What bounds a port over a run: a line for each fact.
use Rattle.std.specs.Prelude.{◌≡◌, ℕ, List, ◌++◌}
use Rattle.pd_scenario.specs.Plan.{Plan}
use Rattle.pd_run.specs.Run.{Move}
use Rattle.pd_run.specs.Shown.{SafeRun}
use Rattle.pd_why.specs.declared.question.Question.{Question}
use Rattle.pd_why.specs.Story.{story_of, told}
use Rattle.pd_text.specs.declared.piece.Form.{Form}
use Rattle.pd_why.specs.Tellings.{fact_lines}

-- the text is that of the moves of the plan's run, which is safe
pub record TellsWhy (form : Form) (plan : Plan) (q : Question) (old new : List ℕ) : Type 0 where
  pub moves : List Move
  pub safe : SafeRun plan moves
  pub text_is : new ≡ old ++ fact_lines form (told q (story_of plan q moves))
