use Rattle.std.proofs.Common.{arith}
use Rattle.pd_noise.proofs.RowLemmas.{noisies_more, one_longer}
use Rattle.pd_noise.proofs.noisy.noisies_of.Goals as goal

pub loop-index-preserved : goal.loop-index-preserved
loop-index-preserved g c =
    let old = c.loop-index.noisies.items in
    let new = c.push.new.self.items in
    let noisy = c.in_ok-noisy_of.field-0 in
    record {
      count = one_longer old new noisy c.loop-index.index c.loop-index.invariant.count c.in_ok-push.ensures.items;
      each =
          noisies_more c.args.scenario.now c.args.noise.now c.args.runs.first c.loop-index.index _ old new noisy (omega arith)
          c.loop-index.invariant.count c.in_ok-push.ensures.items c.loop-index.invariant.each c.in_ok-noisy_of.ensures;
    }
