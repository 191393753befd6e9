use Rattle.std.proofs.Common.{◌≡◌, drop, None}
use Rattle.std.specs.Option.{IfSome}
use Rattle.pd_sink.specs.Rule.{IsOffered}
use Rattle.pd_sink.specs.Choice.{greatest_from}
use Rattle.pd_sink.proofs.rule.greatest.Given as goal

abbrev pub invariant-loop-supply : goal.invariant-loop-supply
invariant-loop-supply l = record {
  value : greatest_from l.best (drop l.supply-index l.supplies) ≡ greatest_from None l.supplies;
  sound : IfSome l.best IsOffered;
}
