-- What a session costs: how the meter goes along its lines.
use Rattle.std.specs.Prelude.{IfOk, ◌≡◌, ◌⊎◌, ℕ, ◌≤◌, List, [], ◌∷◌, Result, Option, Some}
use Rattle.std.specs.Str.Lines.{lines}
use Rattle.pd_scenario.specs.Scenarios.{ScenarioData}
use Rattle.pd_scenario.specs.Plan.{Plan}
use Rattle.pd_scenario.specs.Plans.{plan_of}
use Rattle.pd_edit_lines.specs.Numbers.{number_of}
use Rattle.pd_edit_lines.specs.declared.fault.EditFault.TheVariants as edit_faults
use Rattle.pd_run.specs.Cost.{Costs, IsPaid}
use Rattle.pd_device.specs.declared.fault.BenchFault.{BenchFault}
use Rattle.pd_bench.specs.declared.tally.Tally.{Tally}
use Rattle.pd_bench.specs.declared.tally.Outcome.{Outcome}
use Rattle.pd_bench.specs.declared.tally.Outcome.TheVariants.{Skipped, Accepted, Refused, Shown}
use Rattle.pd_bench.specs.Session.{Replies, Session, SessionDone, refused_text}

-- The meter where a line is answered. An edit that is made costs what its runner takes from the plan before it to the plan
-- after it. One that is refused for want of memory may have cost something, which isn't told. No other line costs anything.
abbrev pub LineCosts : Costs → ScenarioData → List ℕ → ScenarioData → Outcome → ℕ → ℕ → Type 0
LineCosts costs s reply s' Accepted before after = IsPaid costs (Some (plan_of s)) (plan_of s') before after
LineCosts costs s reply s' Refused before after =
    (after ≡ before) ⊎ ((reply ≡ refused_text (number_of edit_faults.Memory)) × (before ≤ after))
LineCosts costs s reply s' Skipped before after = after ≡ before
LineCosts costs s reply s' Shown before after = after ≡ before

-- the meter along these lines, each with its reply, and with the scenario before it and after it
abbrev pub LinesCost : Costs → (n : ℕ) (s : ScenarioData) (ls : List (List ℕ)) (text : List ℕ)
    (outcomes : List Outcome) → Replies n s ls text outcomes → ℕ → ℕ → Type 0
LinesCost costs n s [] text outcomes replies before after = after ≡ before
LinesCost costs n s (line ∷ more) text outcomes (reply, rest, s', outcome, others, is_reply, text_is, outcomes_are, replies) before after =
    (between : ℕ) × LineCosts costs s reply s' outcome before between × LinesCost costs n s' more rest others replies between after

-- The meter along a whole session, with a runner that stood for the old plan, or for none: the first run, and then the lines.
pub record SessionCosts (costs : Costs) (n : ℕ) (old : Option Plan) (s : ScenarioData) (bytes text : List ℕ)
    (tally : Tally) (session : Session n s bytes text tally) (before after : ℕ) : Type 0 where
  pub first : ℕ
  pub first_run : IsPaid costs old (plan_of s) before first
  pub lines_cost : LinesCost costs n s (lines bytes) session.replies session.outcomes session.are_replies first after

-- where a session ends well, the meter has gone along all that was read
abbrev pub SessionPaid : Costs → ℕ → Result Tally BenchFault → Option (List ℕ) → Option (List ℕ) →
    Option (List ℕ) → Option (List ℕ) → Option Plan → ScenarioData → ℕ → ℕ → Type 0
SessionPaid costs n result left left' taken taken' old s before after =
    IfOk result
    (λ tally. (done : SessionDone n left left' taken taken' s tally)
    × SessionCosts costs n old s done.bytes done.out tally done.session before after)
