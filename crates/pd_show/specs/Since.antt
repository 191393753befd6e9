-- The time since the line before of what starts on the line, where all there is of a run is shown.
use Rattle.std.specs.Prelude.{ℕ, ◌-◌}
use Rattle.pd_show.specs.declared.seen.Seen.{Seen}
use Rattle.pd_show.specs.Choices.{whole}
use Rattle.pd_show.specs.Lines.{all_lines, lines_before}
use Rattle.pd_show.specs.Pages.{last_at}

-- the time of the last line after a move, by that of the last line before it
abbrev pub told_at : ℕ → Seen → ℕ
told_at before seen = last_at before (all_lines whole seen)

-- the time since the line before, in the line of what a move starts
abbrev pub start_since : ℕ → Seen → ℕ
start_since before seen = seen.entry.at - last_at before (lines_before seen)
