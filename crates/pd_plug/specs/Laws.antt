-- Laws of the plug's policy engine.
use Rattle.std.specs.Prelude.{◌≡◌, ℕ, true, List, [], ◌∷◌, Option}
use Rattle.pd_timers.specs.Table.{are_numbered_from}
use Rattle.pd_timers.specs.Deadlines.{SetsLater}
use Rattle.pd_identity.specs.declared.Cable.{Cable}
use Rattle.pd_plug.specs.declared.kinds.Act.{Act}
use Rattle.pd_plug.specs.declared.kinds.Act.TheVariants as act
use Rattle.pd_plug.specs.declared.kinds.Stimulus.{Stimulus}
use Rattle.pd_plug.specs.Record.{PlugRecord}
use Rattle.pd_plug.specs.Table.{table}
use Rattle.pd_plug.specs.Acts.{identity_of}
use Rattle.pd_plug.specs.Step.{before_row, stepped, acts_of}

-- each row's number is its place in the table, from 1
abbrev pub RowsAreNumbered : Type 0
RowsAreNumbered = are_numbered_from 1 table ≡ true

-- after a step, each deadline that runs ran before it, and wasn't the one that fell due, or is later than the step
abbrev pub StepsSetLater : Type 0
StepsSetLater =
    (now : ℕ) (x : Stimulus) (r : PlugRecord) → SetsLater now (before_row x r).deadlines (stepped now x r).deadlines

-- what is sent is what this cable answers
abbrev pub SendOf : Option Cable → List Act → Type 0
SendOf cable [] = Unit {0}
SendOf cable (act.SendIdentity objects ∷ acts) = (objects.items ≡ identity_of cable) × SendOf cable acts
SendOf cable (a ∷ acts) = SendOf cable acts

-- The engine knows the cable that is attached in the step, or the one that it knew before, and sends what that cable answers.
pub record SendsOfItsCable (now : ℕ) (x : Stimulus) (r : PlugRecord) : Type 0 where
  pub cable : (stepped now x r).cable ≡ (before_row x r).cable
  pub sends : SendOf (before_row x r).cable (acts_of now x r)

abbrev pub StepsSendOfTheirCables : Type 0
StepsSendOfTheirCables = (now : ℕ) (x : Stimulus) (r : PlugRecord) → SendsOfItsCable now x r
