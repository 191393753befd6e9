use Rattle.std.proofs.Common.{◌≡◌, ◌++◌, take}
use Rattle.pd_scene.specs.Script.{reasons_text}
use Rattle.pd_scene.proofs.script.push_reasons.Given as goal

abbrev pub invariant-loop-reason : goal.invariant-loop-reason
invariant-loop-reason g l =
    l.text.items ≡ l.initial.text.items ++ reasons_text l.at g.row.N l.scenario (take l.reason-index l.reasons)
