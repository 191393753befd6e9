-- The packets of a run start on its ports, within two minutes.
use Rattle.std.proofs.Common.{◌≡◌, ℕ, ◌≤◌, Bool, true, false, cond, List, [], ◌∷◌, ◌++◌}
use Rattle.std.proofs.Common.{Option, Some, None, sym, subst, arith, map}
use Rattle.std.specs.List.{AllByRecursion}
use Rattle.pd_line.specs.declared.notes.Start.{Start}
use Rattle.pd_line.specs.declared.notes.Start.TheVariants as start
use Rattle.pd_port.specs.declared.entry.Entry.{Entry}
use Rattle.pd_scenario.specs.Plan.{Plan, count}
use Rattle.pd_run.specs.Order.{EachAfter}
use Rattle.pd_run.specs.Run.{GoesOn, Move, shown}
use Rattle.pd_run.specs.Shown.{AreEntriesOf}
use Rattle.pd_report.proofs.MarginLemmas.{all-append, at-due}
use Rattle.pd_sweep.specs.Choices.{chosen, chosen_of, chosen_packet, packet_at}
use Rattle.pd_sweep.specs.Lost.{IsOfRun}
use Rattle.pd_sweep.specs.declared.choice.Choice.{Choice}
use Rattle.pd_sweep.specs.declared.packets.Target.{Target}

-- an entry is on one of the ports, within two minutes
abbrev IsInRun : ℕ → ℕ × Entry → Type 0
IsInRun n m = (1 ≤ m.0) × ((m.0 ≤ n) × (m.1.at ≤ 120000000))

moves_in_run : (n : ℕ) (plan : Plan) (past ms : List Move) → count plan ≡ n → plan.end ≤ 120000000 → EachAfter (GoesOn plan) past ms
    → EachAfter (λ _ m. m.due.time ≤ plan.end) past ms → AllByRecursion (IsInRun n) (map shown ms)
moves_in_run n plan past [] ports soon goes timely = tt
moves_in_run n plan past (m ∷ ms) ports soon goes timely =
    let known = (goes.0).known in
    let at = at-due plan past m goes.0 in
    let time = timely.0 in
    ((omega arith, (omega arith, omega arith)), moves_in_run n plan (past ++ m ∷ []) ms ports soon goes.1 timely.1)

entries_in_run : (n : ℕ) (o : Option Plan) (moves : List (ℕ × Entry)) → AreEntriesOf n o moves → AllByRecursion (IsInRun n) moves
entries_in_run n None moves are = subst (AllByRecursion (IsInRun n)) (sym are) tt
entries_in_run n (Some plan) moves are =
    let run = are.shows.safe.run in
    subst (AllByRecursion (IsInRun n)) (sym are.shows.entries_are)
    (moves_in_run n plan [] are.shows.moves are.is_plan.settings_count are.is_plan.soon run.chained run.timely)

chosen_if : (n : ℕ) (b : Bool) (t : Target) → IsOfRun n t → AllByRecursion (IsOfRun n) (cond b (t ∷ []) [])
chosen_if n true t is = (is, tt)
chosen_if n false t is = tt

start_of_run : (n port at : ℕ) (choice : Choice) (s : Option Start) → 1 ≤ port → port ≤ n → at ≤ 120000000
    → AllByRecursion (IsOfRun n) (chosen_packet choice (packet_at port at s))
start_of_run n port at choice None some few soon = tt
start_of_run n port at choice (Some (start.HardReset side)) some few soon = tt
start_of_run n port at choice (Some (start.Packet side packet fate)) some few soon =
    chosen_if n _ _ (some, (few, soon))

chosen_of_run : (n : ℕ) (choice : Choice) (m : ℕ × Entry) → IsInRun n m → AllByRecursion (IsOfRun n) (chosen_of choice m)
unfolding chosen_of
chosen_of_run n choice m is = start_of_run n m.0 m.1.at choice m.1.start is.0 (is.1).0 (is.1).1

all_chosen : (n : ℕ) (choice : Choice) (moves : List (ℕ × Entry)) → AllByRecursion (IsInRun n) moves
    → AllByRecursion (IsOfRun n) (chosen choice moves)
all_chosen n choice [] are = tt
all_chosen n choice (m ∷ ms) are =
    all-append (IsOfRun n) (chosen_of choice m) (chosen choice ms) (chosen_of_run n choice m are.0) (all_chosen n choice ms are.1)

pub packets_of_run : (n : ℕ) (o : Option Plan) (choice : Choice) (moves : List (ℕ × Entry)) → AreEntriesOf n o moves
    → AllByRecursion (IsOfRun n) (chosen choice moves)
packets_of_run n o choice moves are = all_chosen n choice moves (entries_in_run n o moves are)
