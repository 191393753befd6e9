use Rattle.std.proofs.Common.{◌≡◌, drop, None}
use Rattle.std.specs.Option.{IfSome}
use Rattle.pd_sink.specs.Rule.{Fits}
use Rattle.pd_sink.specs.Choice.{fitting_from}
use Rattle.pd_sink.proofs.rule.fitting.Given as goal

abbrev pub invariant-loop-supply : goal.invariant-loop-supply
invariant-loop-supply l = record {
  value : fitting_from l.demand_mw l.best (drop l.supply-index l.supplies) ≡ fitting_from l.demand_mw None l.supplies;
  sound : IfSome l.best (Fits l.demand_mw);
}
