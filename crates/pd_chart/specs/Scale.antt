-- Where a time and a power stand in the picture, in tenths of a pixel.
use Rattle.std.specs.Prelude.{ℕ, ◌+◌, ◌-◌, ◌*◌, ◌/◌, min, max}
use Rattle.pd_chart.specs.declared.frame.Frame.{Frame}

-- how far a part of a whole reaches on a length
abbrev pub scaled : ℕ → ℕ → ℕ → ℕ
scaled part whole length = min (part * length / max 1 whole) length

-- the x of a time: what is before the window stands at its left, what is after it at its right
unfoldable pub x_of : Frame → ℕ → ℕ
x_of f at = 700 + scaled (min at f.to - f.from) (f.to - f.from) f.width

-- the x at which the window ends
abbrev pub right_of : Frame → ℕ
right_of f = 700 + f.width

-- the y of a power, where the chart reaches up to another
unfoldable pub y_of : ℕ → ℕ → ℕ
y_of top power = 3500 - scaled (min power top) top 2800
