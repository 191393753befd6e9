-- A refused line leaves no trace in a session.
use Rattle.std.specs.Prelude.{◌≡◌, ◌==◌, ℕ, ◌+◌, ◌<◌, zero, suc, false, List, [], ◌∷◌, ◌++◌, length, map, All, slice_get, Some}
use Rattle.std.specs.Str.Lines.{lines, strip_carriage_return}
use Rattle.pd_scenario.specs.Scenarios.{ScenarioData}
use Rattle.pd_edit_lines.specs.Grammar.{line_of}
use Rattle.pd_bench.specs.declared.tally.Tally.{Tally}
use Rattle.pd_bench.specs.declared.tally.Outcome.{Outcome}
use Rattle.pd_bench.specs.declared.tally.Outcome.TheVariants.{Refused}
use Rattle.pd_bench.specs.Session.{Replies, Session, done_text, refused_text}
use Rattle.pd_bench.specs.Laws.{RefusedAs}

-- the lines of these bytes, and those of others, which are the same without one of them
pub record IsWithoutLine (bytes others : List ℕ) (before : List (List ℕ)) (line : List ℕ) (after : List (List ℕ)) : Type 0 where
  pub with_line : lines bytes ≡ before ++ line ∷ after
  pub without_line : lines others ≡ before ++ after

-- these lines, each with the line feed that ends it
abbrev pub ended : List (List ℕ) → List ℕ
ended [] = []
ended (line ∷ more) = line ++ 10 ∷ ended more

abbrev pub HasNoLineFeed : List ℕ → Type 0
HasNoLineFeed line = All (λ b. (b == 10) ≡ false) line

-- Each line can be taken out, with the line feed that ends it; and so can a last one that none ends.
pub record LinesCanBeTakenOut : Type 0 where
  pub ended_line : (front : List (List ℕ)) (line rest : List ℕ) → All HasNoLineFeed front → HasNoLineFeed line
      → IsWithoutLine (ended front ++ (line ++ 10 ∷ rest)) (ended front ++ rest) (map strip_carriage_return front)
      (strip_carriage_return line) (lines rest)
  pub last_line : (front : List (List ℕ)) (line : List ℕ) → All HasNoLineFeed front → HasNoLineFeed line → 0 < length line
      → IsWithoutLine (ended front ++ line) (ended front) (map strip_carriage_return front) line []

-- the scenario as edited by the first so many of these lines
abbrev pub edited_by : (n : ℕ) (s : ScenarioData) (ls : List (List ℕ)) (text : List ℕ) (outcomes : List Outcome) →
    Replies n s ls text outcomes → ℕ → ScenarioData
edited_by n s [] text outcomes replies count = s
edited_by n s (line ∷ more) text outcomes replies zero = s
edited_by n s (line ∷ more) text outcomes (reply, rest, s', outcome, others, is_reply, text_is, outcomes_are, replies) (suc count) =
    edited_by n s' more rest others replies count

-- The text is the replies to the lines before, one refusal by this number, and what follows it; without the refusal, and
-- with one less in the count of the refused, it is the text of a session over the other lines.
pub record LeavesNoTrace (n : ℕ) (s : ScenarioData) (others : List ℕ) (before : List (List ℕ)) (text : List ℕ) (tally : Tally)
    (number : ℕ) : Type 0 where
  pub earlier : List ℕ
  pub later : List ℕ
  pub fewer : Tally
  pub outcomes : List Outcome
  pub are_earlier : Replies n s before earlier outcomes
  pub text_is : text ≡ earlier ++ (refused_text number ++ (later ++ done_text tally))
  pub tally_is : tally ≡ record fewer { refused = fewer.refused + 1 }
  pub session : Session n s others (earlier ++ (later ++ done_text fewer)) fewer

-- A line that is refused, for whatever cause, leaves no trace: it could as well not stand there.
abbrev pub RefusedLeavesNoTrace : Type 0
RefusedLeavesNoTrace =
    (n : ℕ) (s : ScenarioData) (bytes others : List ℕ) (before : List (List ℕ)) (line : List ℕ) (after : List (List ℕ)) (text : List ℕ)
    (tally : Tally)
    → IsWithoutLine bytes others before line after → (session : Session n s bytes text tally) →
    slice_get session.outcomes (length before) ≡ Some Refused
    → (number : ℕ) × LeavesNoTrace n s others before text tally number

-- A line that is refused for its own sake, with the scenario as edited by the lines before it, is always refused, by its
-- number, and leaves no trace.
abbrev pub RefusalsLeaveNoTrace : Type 0
RefusalsLeaveNoTrace =
    (n : ℕ) (s : ScenarioData) (bytes others : List ℕ) (before : List (List ℕ)) (line : List ℕ) (after : List (List ℕ)) (text : List ℕ)
    (tally : Tally) (number : ℕ)
    → IsWithoutLine bytes others before line after → (session : Session n s bytes text tally)
    → RefusedAs n (edited_by n s (lines bytes) session.replies session.outcomes session.are_replies (length before)) (line_of line) number
    → (slice_get session.outcomes (length before) ≡ Some Refused) × LeavesNoTrace n s others before text tally number
