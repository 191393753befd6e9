-- The ticks of the axes.
use Rattle.std.specs.Prelude.{ℕ, ◌+◌, ◌*◌, ◌-◌, ◌%◌, ◌&&◌, nat_le, Bool, if◌then◌else◌, List, [], ◌∷◌}
use Rattle.pd_chart.specs.declared.amounts.Prefix.{Prefix}
use Rattle.pd_chart.specs.declared.amounts.Prefix.TheVariants.{Whole, Milli, Micro}
use Rattle.pd_chart.specs.declared.frame.Frame.{Frame}

abbrev pub powers : List ℕ
powers = 1 ∷ 10 ∷ 100 ∷ 1000 ∷ 10000 ∷ 100000 ∷ 1000000 ∷ 10000000 ∷ 100000000 ∷ []

-- at most so many steps fit in a length
abbrev pub fits : ℕ → ℕ → ℕ → Bool
fits most length step = nat_le length (most * step)

-- 1, 2 or 5 times a power of ten: the least such step of which at most so many fit in a length, or else a billion
abbrev pub first_step : ℕ → ℕ → List ℕ → ℕ
first_step most length [] = 1000000000
first_step most length (p ∷ ps) =
    if fits most length p then p else if fits most length (2 * p) then 2 * p else if fits most length (5 * p) then 5 * p
    else first_step most length ps

unfoldable pub step_of : ℕ → ℕ → ℕ
step_of most length = first_step most length powers

-- of the times, ten steps at most are in the window; of the powers, eight are up to the greatest
abbrev pub time_step : Frame → ℕ
time_step f = step_of 10 (f.to - f.from)

abbrev pub power_step : ℕ → ℕ
power_step top = step_of 8 top

-- the multiples of the step from the window's start on, the last one before it being the first here
abbrev pub time_of : Frame → ℕ → ℕ
time_of f k = (f.from - f.from % time_step f) + k * time_step f

-- a time is in the window
abbrev pub is_inside : Frame → ℕ → Bool
is_inside f t = nat_le f.from t && nat_le t f.to

-- the times are in seconds, milliseconds or microseconds, as the window's end is
abbrev pub prefix_of : Frame → Prefix
prefix_of f = if nat_le 1000000 f.to then Whole else if nat_le 1000 f.to then Milli else Micro
