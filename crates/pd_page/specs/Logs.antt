-- What is told of a log.
use Rattle.std.specs.Prelude.{◌≡◌, ℕ, ◌+◌, List, [], ◌∷◌, ◌++◌, Option, None}
use Rattle.pd_log.specs.Answers.{Says}
use Rattle.pd_log.specs.Begun.{BegunData}
use Rattle.pd_log.specs.Objects.{json_text}
use Rattle.pd_log.specs.Times.{log_time}
use Rattle.pd_log.specs.declared.answer.Answer.{Answer}

-- What its lines say, one after the other, each behind its number and its own time; the first has this number, and stands behind lines by
-- which this packet or table has begun.
unfoldable pub TellsLog : ℕ → Option BegunData → List (List ℕ) → List ℕ → Type 0
TellsLog number begun [] text = text ≡ []
TellsLog number begun (line ∷ lines) text =
    (answer : Answer) × (behind : Option BegunData) × (rest : List ℕ) × Says begun line answer behind
    × (text ≡ json_text number (log_time begun line) None answer ++ rest) × TellsLog (number + 1) behind lines rest
