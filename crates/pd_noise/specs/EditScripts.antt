-- The losses of a run as lines of an edit script.
use Rattle.std.specs.Prelude.{ℕ, not, Bool, List, [], ◌∷◌, ◌++◌, codes, decimal, length, find}
use Rattle.std.specs.Prelude.{option_map, Option, Some, None, Result, Ok, Err}
use Rattle.pd_scenario.specs.Scenarios.{ScenarioData, has_id}
use Rattle.pd_scenario.specs.declared.event.ScenarioEvent.{ScenarioEvent}
use Rattle.pd_sweep.specs.Variants.{variant}
use Rattle.pd_sweep.specs.Words.{obstacle_words}
use Rattle.pd_sweep.specs.declared.choice.Loss.TheVariants as loss
use Rattle.pd_sweep.specs.declared.packets.Target.{Target}
use Rattle.pd_sweep.specs.declared.variant.Obstacle.{Obstacle}
use Rattle.pd_noise.specs.Reports.{between, lost_words, noise_words}
use Rattle.pd_noise.specs.declared.noise.Noise.{Noise}

-- none of these events has an event's id
abbrev pub is_new : List ScenarioEvent → ScenarioEvent → Bool
is_new events e = not (has_id events e.id)

-- the id of the event that the second scenario has more
abbrev pub new_id : ScenarioData → ScenarioData → Option ℕ
new_id c v = option_map (λ (e : ScenarioEvent). e.id) (find (is_new c.events) v.events)

abbrev pub time_words : Target → List ℕ
time_words t = decimal t.at ++ (32 ∷ decimal t.port)

-- the line that puts an event of this id in
abbrev pub insertion_words : Target → Option ℕ → List ℕ
insertion_words t None = []
insertion_words t (Some id) = codes "insert " ++ (decimal id ++ (32 ∷ (time_words t ++ codes " lose\n")))

-- or a comment that says why there is none
abbrev pub comment_words : Target → Obstacle → List ℕ
comment_words t obstacle = codes "# insert ? " ++ (time_words t ++ (codes " lose: " ++ (obstacle_words obstacle ++ codes "\n")))

abbrev pub line_of : ScenarioData → Target → Result ScenarioData Obstacle → List ℕ
line_of c t (Ok v) = insertion_words t (new_id c v)
line_of c t (Err obstacle) = comment_words t obstacle

-- what the line leaves
abbrev pub left_of : ScenarioData → Result ScenarioData Obstacle → ScenarioData
left_of c (Ok v) = v
left_of c (Err obstacle) = c

-- a line for each of these packets, each for the scenario of n ports as the lines before it leave it
abbrev pub edit_lines : ℕ → ScenarioData → List Target → List ℕ
edit_lines n c [] = []
edit_lines n c (t ∷ ts) = line_of c t (variant n c loss.Lost t) ++ edit_lines n (left_of c (variant n c loss.Lost t)) ts

-- the comment at the head says of which run they are
abbrev pub script_words : ℕ → ScenarioData → Noise → ℕ → List Target → List ℕ
script_words n c noise run losses =
    between (codes "# run ") run (codes ", ") ++ (noise_words noise ++ (lost_words (length losses) ++ (codes "\n"
    ++ edit_lines n c losses)))
