use Rattle.std.proofs.Common.{◌≡◌, ◌++◌}
use Rattle.pd_explain.specs.Places.{reasons_at}
use Rattle.pd_explain.proofs.refused.push_reasons.Given as goal

abbrev pub invariant-loop-place : goal.invariant-loop-place
invariant-loop-place l = l.reasons.items ≡ l.initial.reasons.items ++ reasons_at l.fault l.yielded
