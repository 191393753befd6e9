use Rattle.std.proofs.Common.{◌≡◌, [], ◌∷◌, ◌++◌, take}
use Rattle.std.specs.List.{flat_map}
use Rattle.pd_desk.specs.History.{StepData}
use Rattle.pd_desk.proofs.notes.push_steps.Given as goal

abbrev pub invariant-loop-step : goal.invariant-loop-step
invariant-loop-step g l =
    l.text.items ≡ l.initial.text.items ++ flat_map (λ (step : StepData). step.line ++ 10 ∷ []) (take l.step-index l.steps)
