use Rattle.pd_scene.proofs.ScriptLines.{more_followed, all_followed, more_refused, all_refused}
use Rattle.pd_scene.proofs.edits.follow.Goals as goal

pub loop-line-preserved : goal.loop-line-preserved
loop-line-preserved g c =
    let line = c.in_ok-is_refused.ensures in (
      more_followed g.row.N _ c.loop-line.scenario _ _ c.loop-line.rest.now _ c.loop-line.invariant.0 c.in-Some.ensures.lines line.after,
      more_refused g.row.N _ c.loop-line.any _ _ c.loop-line.scenario _ _ c.loop-line.rest.now _ c.loop-line.invariant.1
          c.in-Some.ensures.lines line.after line.refused c.either-any.ensures,
    )

pub returns : goal.returns
returns g c = record {
  after = all_followed g.row.N _ c.loop-line.scenario c.loop-line.rest.now c.loop-line.invariant.0 c.in_default.ensures.lines;
  refused = all_refused g.row.N _ c.loop-line.any c.loop-line.scenario c.loop-line.rest.now c.loop-line.invariant.1
      c.in_default.ensures.lines;
}
