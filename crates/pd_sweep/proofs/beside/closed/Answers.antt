use Rattle.std.proofs.Common.{◌<◌, ◌≡◌, ◌∙◌, length, arith}
use Rattle.std.proofs.lemmas.List.{length-set}
use Rattle.pd_sweep.proofs.BesideLemmas.{closed_all, closed_more}
use Rattle.pd_sweep.proofs.beside.closed.Goals as goal

pub loop-port-preserved : goal.loop-port-preserved
loop-port-preserved c =
    let count : length c.loop-port.measures ≡ 8 = c.loop-port.invariant.count_is in
    let within : c.loop-port.port < length c.loop-port.measures = omega arith in
    record {
      count_is = length-set c.loop-port.measures c.loop-port.port c.measured.result ∙ count;
      each =
          closed_more c.args.ledgers.now c.args.end c.loop-port.measures c.loop-port.port c.measured.result within
          c.loop-port.invariant.each c.measured.ensures;
    }

pub returns : goal.returns
returns c =
    closed_all c.args.ledgers.now c.args.end c.loop-port.measures c.told-ledgers c.loop-port.invariant.count_is
    (λ k few. c.loop-port.invariant.each k (omega arith))
