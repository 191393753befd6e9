use Rattle.std.proofs.Common.{arith, ◌<◌, ◌∙◌, refl}
use Rattle.std.proofs.lemmas.List.{take_rest}
use Rattle.pd_device.proofs.DeviceLemmas.{Wrote-more, Wrote-part}
use Rattle.pd_device.proofs.device.write_all.Goals as goal

pub loop-rest-preserved : goal.loop-rest-preserved
loop-rest-preserved g c = record {
  wrote = rw take_rest (Wrote-more _ _ _ _ _ c.in-Ok.count c.loop-rest.invariant.wrote c.in-Ok.ensures.bytes);
  counts = let some : 0 < c.in-Ok.count = omega arith in c.in-Ok.ensures.counts.1 some ∙ c.loop-rest.invariant.counts;
}

pub returns-in_default-clause-text : goal.returns-in_default-clause-text
returns-in_default-clause-text g c = (refl, Wrote-part _ _ _ _ _ c.loop-rest.invariant.wrote c.in_default.ensures.bytes)
