use Rattle.std.proofs.Common.{◌≡◌, length}
use Rattle.pd_device.proofs.DeviceLemmas.{Wrote}
use Rattle.pd_device.proofs.device.write_all.Given as goal

abbrev pub invariant-loop-rest : goal.invariant-loop-rest
invariant-loop-rest g l = record {
  wrote : Wrote l.bytes l.rest (g.W.TextOut.taken l.initial.writer) (g.W.TextOut.taken l.writer);
  counts : g.W.TextOut.failures l.writer ≡ g.W.TextOut.failures l.initial.writer;
}

abbrev pub decreases-loop-rest : goal.decreases-loop-rest
decreases-loop-rest g l = length l.rest
