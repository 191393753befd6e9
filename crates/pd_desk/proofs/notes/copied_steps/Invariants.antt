use Rattle.std.proofs.Common.{◌≡◌, take}
use Rattle.pd_desk.proofs.notes.copied_steps.Given as goal

abbrev pub invariant-loop-step : goal.invariant-loop-step
invariant-loop-step g l = l.copies.items ≡ take l.step-index l.steps
