use Rattle.std.proofs.Common.{◌∙◌, arith}
use Rattle.std.proofs.lemmas.List.{take_all}
use Rattle.std.proofs.lemmas.Result.{err_from_is_err_and}
use Rattle.pd_bench.proofs.SessionLemmas.{Fed-next, FedPart-next}
use Rattle.pd_bench.proofs.bench.feed.Goals as goal

pub loop-byte-preserved : goal.loop-byte-preserved
loop-byte-preserved g c = record {
  fed = Fed-next g.T.Runner.costs g.row.N _ _ (omega arith) c.loop-byte.invariant.fed c.in_ok-take_byte.ensures.text;
  counts = c.in_ok-take_byte.ensures.counts ∙ c.loop-byte.invariant.counts;
  runs = c.in_ok-take_byte.ensures.runs;
  room = omega arith;
  rises = omega arith;
}

pub returns-in_err-take_byte-clause-text : goal.returns-in_err-take_byte-clause-text
returns-in_err-take_byte-clause-text g c =
    let p = err_from_is_err_and c.from_residual.result c.from_residual.ensures.1 in
    rw (p.1, p.2) (
      c.in_err-take_byte.ensures.text.0,
      FedPart-next g.T.Runner.costs g.row.N _ _ (omega arith) c.loop-byte.invariant.fed
          c.in_err-take_byte.ensures.text.1,
    )

pub returns-in_err-take_byte-clause-counts : goal.returns-in_err-take_byte-clause-counts
returns-in_err-take_byte-clause-counts g c =
    let p = err_from_is_err_and c.from_residual.result c.from_residual.ensures.1 in
    rw (p.1, ← c.loop-byte.invariant.counts) c.in_err-take_byte.ensures.counts

pub returns-in_err-take_byte-clause-runs : goal.returns-in_err-take_byte-clause-runs
returns-in_err-take_byte-clause-runs g c = c.in_err-take_byte.ensures.runs

pub returns-in_err-take_byte-clause-room : goal.returns-in_err-take_byte-clause-room
returns-in_err-take_byte-clause-room g c =
    let p = err_from_is_err_and c.from_residual.result c.from_residual.ensures.1 in rw p.1 tt

pub returns-in_err-take_byte-clause-rises : goal.returns-in_err-take_byte-clause-rises
returns-in_err-take_byte-clause-rises g c = omega (arith, c.in_err-take_byte.ensures.rises, c.loop-byte.invariant.rises)

pub returns-clause-text : goal.returns-clause-text
returns-clause-text g c = rw (take_all c.loop-byte.byte-index c.args.chunk.now c.loop-byte-test.false) at c.loop-byte.invariant.fed

pub returns-clause-counts : goal.returns-clause-counts
returns-clause-counts g c = c.loop-byte.invariant.counts

pub returns-clause-runs : goal.returns-clause-runs
returns-clause-runs g c = c.loop-byte.invariant.runs

pub returns-clause-room : goal.returns-clause-room
returns-clause-room g c = omega (arith, c.loop-byte.invariant.room, c.loop-byte.auto.byte-index-end)

pub returns-clause-rises : goal.returns-clause-rises
returns-clause-rises g c = c.loop-byte.invariant.rises
