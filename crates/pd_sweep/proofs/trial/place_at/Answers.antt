use Rattle.std.proofs.Common.{arith}
use Rattle.pd_report.proofs.MarginLemmas.{in-order}
use Rattle.pd_sweep.proofs.PlaceLemmas.{before_more}
use Rattle.pd_sweep.proofs.trial.place_at.Goals as goal

pub loop-low-preserved-then-is_before : goal.loop-low-preserved-then-is_before
loop-low-preserved-then-is_before g c = record {
  ordered = omega (arith, c.half_way-middle.ensures.below);
  within = c.loop-low.invariant.within;
  before =
      before_more c.args.at (g.T.Runner.entries c.args.run.now) c.half_way-middle.result c.is_before.result
      (in-order _ _ _ c.len-high.ensures.run) c.is_before.ensures c.if-is_before.true;
}
