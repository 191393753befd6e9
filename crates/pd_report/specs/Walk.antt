-- How far a walk over the entries of a run and the changes of the budget has come.
use Rattle.std.specs.Prelude.{◌≡◌, ℕ, ◌+◌, ◌-◌, ◌==◌, ◌<◌, ◌≤◌, ◌&&◌, if◌then◌else◌, List, [], length, take, drop, map, sum, slice_set}
use Rattle.std.specs.Prelude.{Option, Some, None, IsSome, IfSome, Bool, true, false, slice_get}
use Rattle.std.specs.List.{AllByRecursion, flat_map, range_with_len}
use Rattle.pd_port.specs.declared.entry.ContractChange.{ContractChange}
use Rattle.pd_port.specs.declared.entry.Entry.{Entry}
use Rattle.pd_scenario.specs.NextChange.{IsNextChange}
use Rattle.pd_scenario.specs.Plan.{Plan, force}
use Rattle.pd_scenario.specs.ByTime.{IsByTime}
use Rattle.pd_scenario.specs.Places.{StandsAt}
use Rattle.pd_report.specs.Margins.{most_ports, power_left, power_on, contracts_at, instant_text, margin_text}
use Rattle.pd_report.specs.declared.walk.Standing.{Standing}
use Rattle.pd_report.specs.declared.walk.Walk.{Walk}

-- what stands at the end of an instant
abbrev pub standing_at : Plan → List (ℕ × Entry) → ℕ → Standing
standing_at plan moves t = record { contracts = contracts_at moves t; budget = force plan t }

-- what stood before an instant, if there was a time before it
abbrev pub standing_before : Plan → List (ℕ × Entry) → ℕ → Option Standing
standing_before plan moves t = if t == 0 then None else Some (standing_at plan moves (t - 1))

-- what stands once a walk has seen all entries of its instant
abbrev pub standing_of : Walk → Standing
standing_of walk = record { contracts = sum walk.powers; budget = walk.budget }

-- the powers of the ports' contracts after a change on one port
abbrev pub noted : List ℕ → ℕ → Option ContractChange → List ℕ
noted powers port None = powers
noted powers port (Some change) = slice_set powers (port - 1) (power_left change)

-- the walk has seen one more entry
abbrev pub noted_walk : Walk → ℕ → Option ContractChange → Walk
noted_walk walk port change = record walk { seen = walk.seen + 1; powers = noted walk.powers port change }

-- the line of an instant, where it differs from what stood before
abbrev pub line_after : Option Standing → ℕ → Standing → List ℕ
line_after None t s = margin_text t s.contracts s.budget
line_after (Some before) t s =
    if before.contracts == s.contracts && before.budget == s.budget then [] else margin_text t s.contracts s.budget

-- the walk knows the changes of the budget in their order, which of them have come by its instant, the budget then, and when
-- it changes next
pub record KnowsBudget (plan : Plan) (walk : Walk) : Type 0 where
  pub order_is : IsByTime plan.forces walk.order.now
  pub stands : StandsAt walk.order.now walk.place walk.at
  pub budget_is : walk.budget ≡ force plan walk.at
  pub next_is : IsNextChange plan.forces walk.at walk.next

-- the walk goes on to a later instant, and knows the budget there
pub record GoesOnTo (plan : Plan) (walk : Walk) (at : ℕ) (new : Walk) : Type 0 where
  pub later : walk.at < at
  pub seen_is : new.seen ≡ walk.seen
  pub powers_are : new.powers ≡ walk.powers
  pub at_is : new.at ≡ at
  pub before_is : new.before ≡ Some (standing_of walk)
  pub knows : KnowsBudget plan new

-- a change of a contract is no later than a time
abbrev pub ChangesBy : ℕ → ℕ × Entry → Type 0
ChangesBy t move = IsSome move.1.contract → move.1.at ≤ t

-- no change is later than a time
abbrev pub NoChangeLater : ℕ → List (ℕ × Entry) → Type 0
NoChangeLater t moves = AllByRecursion (ChangesBy t) moves

-- the next entry that the walk has yet to see, if there is one, is later than the instant at which it stands
abbrev pub NoneNow : List (ℕ × Entry) → Walk → Type 0
NoneNow moves walk = IfSome (slice_get moves walk.seen) (λ move. walk.at < move.1.at)

-- the walk has seen one more entry, or stands as it stood, where the next one is later
abbrev pub SeesEntry : Bool → List (ℕ × Entry) → Walk → Walk → Type 0
SeesEntry true moves walk walk' = (walk'.seen ≡ walk.seen + 1) × (walk'.seen ≤ length moves)
SeesEntry false moves walk walk' = (walk' ≡ walk) × NoneNow moves walk

-- no entry is before a time
abbrev pub NoneBefore : ℕ → List (ℕ × Entry) → Type 0
NoneBefore t moves = AllByRecursion (λ move. t ≤ move.1.at) moves

-- The walk has seen some of the entries: it knows the power of each port's contract after them, stands at an instant that is
-- not before any change among them nor after any other entry, and knows what stood before that instant and the budget there.
pub record IsWalk (plan : Plan) (moves : List (ℕ × Entry)) (walk : Walk) : Type 0 where
  pub powers_are : walk.powers ≡ map (power_on (take walk.seen moves)) (range_with_len 1 most_ports)
  pub some_are_seen : walk.seen ≤ length moves
  pub past : NoChangeLater walk.at (take walk.seen moves)
  pub ahead : NoneBefore walk.at (drop walk.seen moves)
  pub before_is : walk.before ≡ standing_before plan moves walk.at
  pub knows : KnowsBudget plan walk
  pub in_time : walk.at ≤ plan.end + 1

-- how many entries a walk has yet to see, and instants to come to: with each step fewer
abbrev pub left_of : Plan → List (ℕ × Entry) → Walk → ℕ
left_of plan moves walk = (length moves - walk.seen) + (plan.end + 1 - walk.at)

-- what was written for the instants before the one at which a walk stands
abbrev pub text_before : Plan → List (ℕ × Entry) → ℕ → List ℕ
text_before plan moves t = flat_map (instant_text plan moves) (range_with_len 0 t)
