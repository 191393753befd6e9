use Rattle.std.proofs.Common.{◌≡◌, map, reverse}
use Rattle.pd_sweep.specs.Parts.{part_of}
use Rattle.pd_sweep.specs.declared.sets.Packets.TheVariants.{One}
use Rattle.pd_sweep.proofs.SweepLemmas.{Progress}
use Rattle.pd_sweep.proofs.walk.sweep.Given as goal

abbrev pub invariant-loop-packets : goal.invariant-loop-packets
invariant-loop-packets g l = record {
  progress : Progress g.row.N l.scenario l.campaign l.look l.base.findings (map One (part_of l.fn.part l.targets.items))
      (reverse l.waiting.items) l.left l.sums (g.W.TextOut.taken l.fn.writer) (g.W.TextOut.taken l.writer);
  counts : g.W.TextOut.failures l.writer ≡ g.W.TextOut.failures l.fn.writer;
}

abbrev pub decreases-loop-packets : goal.decreases-loop-packets
decreases-loop-packets g l = l.left
