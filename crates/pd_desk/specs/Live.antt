-- What the desk over a reader comes to, for the scenario of a text.
use Rattle.std.specs.Prelude.{◌≡◌, ℕ, List, Result, Ok, Err, Option}
use Rattle.pd_scenario.specs.Scenarios.{ScenarioData}
use Rattle.pd_device.specs.declared.fault.BenchFault.{BenchFault}
use Rattle.pd_bench.specs.Session.{CountsFault}
use Rattle.pd_bench.specs.declared.texts.RunFault.{RunFault}
use Rattle.pd_bench.specs.declared.texts.RunFault.TheVariants as faults
use Rattle.pd_scenario_text.specs.Texts.{IsRefused, IsScenarioText}
use Rattle.pd_desk.specs.Ends.{Beside, DeskEnds}
use Rattle.pd_desk.specs.Shelf.{Shelved}
use Rattle.pd_desk.specs.declared.left.Left.{Left}

-- the desk ended so, for the scenario of the text
abbrev pub EndsFor : Result Left BenchFault → List ℕ → Option (List ℕ) → Option (List ℕ) → Option (List ℕ) → Option (List ℕ) →
    Beside → Beside → Shelved → Shelved → Type 0
EndsFor result text left left' taken taken' w w' shelf shelf' =
    (n : ℕ) × (s : ScenarioData) × IsScenarioText text n s × DeskEnds n result left left' taken taken' w w' shelf shelf' s

-- a refused text: nothing is read, written, told or saved
abbrev pub LiveEnds : Result Left RunFault → List ℕ → Option (List ℕ) → Option (List ℕ) → Option (List ℕ) → Option (List ℕ) →
    Beside → Beside → Shelved → Shelved → Type 0
LiveEnds (Ok end) text left left' taken taken' w w' shelf shelf' =
    EndsFor (Ok end) text left left' taken taken' w w' shelf shelf'
LiveEnds (Err (faults.Scenario fault)) text left left' taken taken' w w' shelf shelf' =
    IsRefused text fault × (left' ≡ left) × (taken' ≡ taken) × (w' ≡ w) × (shelf' ≡ shelf)
LiveEnds (Err (faults.Session fault)) text left left' taken taken' w w' shelf shelf' =
    EndsFor (Err fault) text left left' taken taken' w w' shelf shelf'

-- which device failed, by the counts of failed reads and writes
abbrev pub LiveCounts : Result Left RunFault → ℕ → ℕ → ℕ → ℕ → Type 0
LiveCounts (Ok end) reads reads' writes writes' = (reads' ≡ reads) × (writes' ≡ writes)
LiveCounts (Err (faults.Scenario fault)) reads reads' writes writes' = (reads' ≡ reads) × (writes' ≡ writes)
LiveCounts (Err (faults.Session fault)) reads reads' writes writes' = CountsFault {X = Left} (Err fault) reads reads' writes writes'
