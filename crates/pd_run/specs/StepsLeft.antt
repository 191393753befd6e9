-- How many steps are left at most: a number that each move lowers, so that a run ends.
use Rattle.std.specs.Prelude.{ℕ, ◌+◌, ◌-◌, ◌*◌, map, length, sum, nat_le, if◌then◌else◌, slice_index, Option, Some, None}
use Rattle.std.specs.List.{range_with_len}
use Rattle.pd_port.specs.declared.due.Due.{Due}
use Rattle.pd_port.specs.Port.{PortRecord}
use Rattle.pd_port.specs.Laws.{pending}
use Rattle.pd_scenario.specs.Plan.{Plan, count, script_of}
use Rattle.pd_run.specs.Run.{Standing, due_from}
use Rattle.pd_run.specs.Live.{LiveData, port_at}

-- What a port has left from a due on: for each microsecond its 64 deadlines and one more, what is pending at the due's time,
-- and the events of its script.
abbrev pub steps_left_from : Plan → ℕ → PortRecord → ℕ → Due → ℕ
steps_left_from plan p r t d =
    if nat_le d.time plan.end then (plan.end + 1 - d.time) * 65 + pending r d.time + (length (script_of plan p) - t) else 0

abbrev pub steps_left_at : Plan → ℕ → PortRecord → ℕ → Option Due → ℕ
steps_left_at plan p r t None = 0
steps_left_at plan p r t (Some d) = steps_left_from plan p r t d

abbrev pub steps_left_of : Plan → ℕ → Standing → ℕ
steps_left_of plan p s = steps_left_at plan p s.state s.taken (due_from plan s p)

-- where a port of this number stands, its record and the events that it has had
abbrev pub standing_at : LiveData → ℕ → Standing
standing_at live p = record { state = (port_at live p).port_record; taken = slice_index live.taken p }

-- what all ports have left
abbrev pub steps_left : Plan → LiveData → ℕ
steps_left plan live = sum (map (λ p. steps_left_of plan p (standing_at live p)) (range_with_len 0 (count plan)))
