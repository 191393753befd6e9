use Rattle.std.proofs.Common.{◌≡◌, drop}
use Rattle.pd_chart.specs.Ticks.{first_step}
use Rattle.pd_plot.proofs.scale.first_step.Given as goal

abbrev pub invariant-loop-power : goal.invariant-loop-power
invariant-loop-power l = first_step l.most l.length l.powers ≡ first_step l.most l.length (drop l.power-index l.powers)
