-- How many faults a step may note.
use Rattle.std.specs.Prelude.{ℕ, if◌then◌else◌}
use Rattle.pd_header.specs.declared.side.Side.{Side}
use Rattle.pd_header.specs.declared.side.Side.TheVariants.{Source, Sink, Plug}
use Rattle.pd_line.specs.Lines.{is_side}

-- At most so many faults come of a step of a side's engine. The source may note one, and may turn the power on, by which
-- the sink is stepped.
abbrev pub most : Side → ℕ
most Source = 2
most Sink = 1
most Plug = 0

-- of a step of a side that isn't the sender's
abbrev pub most_besides : Side → Side → ℕ
most_besides sender side = if is_side side sender then 0 else most side
