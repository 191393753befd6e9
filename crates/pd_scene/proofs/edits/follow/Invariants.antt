use Rattle.std.proofs.Common.{◌≡◌, ◌||◌, length}
use Rattle.std.specs.Str.Lines.{lines}
use Rattle.pd_scene.specs.Script.{followed, is_any_refused}
use Rattle.pd_scene.proofs.edits.follow.Given as goal

abbrev pub invariant-loop-line : goal.invariant-loop-line
invariant-loop-line g l = (followed g.row.N l.initial.scenario (lines l.script) ≡ followed g.row.N l.scenario (lines l.rest))
    × (is_any_refused g.row.N l.initial.scenario (lines l.script) ≡ (l.any || is_any_refused g.row.N l.scenario (lines l.rest)))

abbrev pub decreases-loop-line : goal.decreases-loop-line
decreases-loop-line g l = length l.rest
