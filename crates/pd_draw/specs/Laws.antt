-- What holds of the titles of a picture.
use Rattle.std.specs.Prelude.{◌≡◌, ◌<◌, ◌^◌, ℕ, List, ◌∷◌, ◌++◌, All, codes, Option, Some}
use Rattle.pd_line.specs.declared.notes.Start.{Start}
use Rattle.pd_scenario.specs.Plan.{Plan}
use Rattle.pd_run.specs.Run.{Move}
use Rattle.pd_show.specs.declared.choice.Form.TheVariants as form
use Rattle.pd_show.specs.declared.seen.Seen.{Seen}
use Rattle.pd_show.specs.Choices.{whole}
use Rattle.pd_show.specs.Lines.{Line, lines_of}
use Rattle.pd_show.specs.Pages.{last_at, line_text}
use Rattle.pd_show.specs.Seen.{all_seen}
use Rattle.pd_chart.specs.declared.frame.Frame.{Frame}
use Rattle.pd_draw.specs.Lanes.{drawn_of, place_of}
use Rattle.pd_draw.specs.Marks.{start_mark}
use Rattle.pd_draw.specs.Places.{title_words}

-- the title is a line of the whole show of these moves of a plan, but for its line feed
pub record IsLineOf (plan : Plan) (moves : List Move) (title : List ℕ) : Type 0 where
  pub earlier : List Line
  pub line : Line
  pub later : List Line
  pub lines_are : lines_of plan whole moves ≡ earlier ++ line ∷ later
  pub text_is : line_text form.Words (last_at 0 earlier) line ≡ title ++ codes "\n"

-- What a browser tells of what a move starts is a line of the whole show, whatever window and port are drawn.
abbrev pub TitlesAreLines : Type 0
TitlesAreLines =
    (plan : Plan) (moves : List Move) (earlier later : List Seen) (seen : Seen) (start : Start) (f : Frame) (chosen : Option ℕ) →
    All (λ (s : Seen). s.entry.at < 2 ^ 64) (all_seen plan moves) → all_seen plan moves ≡ earlier ++ seen ∷ later →
    seen.entry.start ≡ Some start →
    IsLineOf plan moves (title_words (place_of f (drawn_of f chosen earlier).before seen) (start_mark seen.by start).figure.row
    (start_mark seen.by start).words)
