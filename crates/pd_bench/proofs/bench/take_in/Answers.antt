use Rattle.std.proofs.Common.{◌∙◌, arith, ◌≤◌, ◌<◌, ◌≡◌, length, rules, take, drop, ◌+◌}
use Rattle.std.proofs.lemmas.List.{length-take-le, take-append-le, length-append, length-drop}
use Rattle.std.proofs.lemmas.Result.{err_from_is_err_and}
use Rattle.pd_bench.specs.Session.{answered}
use Rattle.pd_bench.proofs.SessionLemmas.{Taking-none, Taking-more, TookIn-from, TookPart-read, TookPart-long, TookPart-write}
use Rattle.pd_bench.proofs.bench.take_in.Goals as goal

pub loop-total-init : goal.loop-total-init
loop-total-init g c = record {
  taking = Taking-none g.T.Runner.costs g.row.N _ _ _ _ _;
  reads = search rules;
  writes = search rules;
  runs = c.requires.runs;
  room = omega arith;
  few = omega arith;
  rises = omega arith;
  space = search rules;
}

pub returns-in_default-clause-text : goal.returns-in_default-clause-text
returns-in_default-clause-text g c =
    TookPart-read g.T.Runner.costs g.row.N (_, c.loop-total.invariant.runs.1) c.loop-total.invariant.taking (omega arith)
    c.in_default.ensures.bytes

pub loop-total-preserved : goal.loop-total-preserved
loop-total-preserved g c =
    let space = c.read.new.space in
    let buffer = c.loop-total.buffer in
    let room = c.min-room.result in
    let asked : length (take room buffer) ≡ room = length-take-le room buffer (omega arith) in
    let within : c.in-Ok.count ≤ length space = omega (arith, c.in-Ok.ensures.counts.0, c.read.auto.space) in
    let chunk = take-append-le c.in-Ok.count space (drop room buffer) within in
    let count : length (take c.in-Ok.count space) ≡ c.in-Ok.count = length-take-le c.in-Ok.count space within in
    let more : answered c.feed.new.state.tally ≤ answered c.loop-total.state.tally + length (take c.in-Ok.count space) =
    rw chunk at c.in_ok-feed.ensures.room in
    record {
      taking =
          Taking-more g.T.Runner.costs g.row.N (take c.in-Ok.count space) c.in-Ok.count count c.loop-total.invariant.taking
          c.in-Ok.ensures.bytes.0 (rw chunk at c.in_ok-feed.ensures.text);
      reads = c.in-Ok.ensures.counts.1 ∙ c.loop-total.invariant.reads;
      writes = c.in_ok-feed.ensures.counts ∙ c.loop-total.invariant.writes;
      runs = c.in_ok-feed.ensures.runs;
      room = omega (arith, more, count, c.loop-total.invariant.room);
      few = omega arith;
      rises = omega arith;
      space = omega (arith, length-append space (drop room buffer), length-drop room buffer, c.read.auto.space, asked);
    }

pub returns-in_err-feed-clause-text : goal.returns-in_err-feed-clause-text
returns-in_err-feed-clause-text g c =
    let p = err_from_is_err_and c.from_residual.result c.from_residual.ensures.1 in
    let space = c.read.new.space in
    let buffer = c.loop-total.buffer in
    let room = c.min-room.result in
    let asked : length (take room buffer) ≡ room = length-take-le room buffer (omega arith) in
    let within : c.in-Ok.count ≤ length space = omega (arith, c.in-Ok.ensures.counts.0, c.read.auto.space) in
    let chunk = take-append-le c.in-Ok.count space (drop room buffer) within in
    let count : length (take c.in-Ok.count space) ≡ c.in-Ok.count = length-take-le c.in-Ok.count space within in
    let failed = rw chunk at c.in_err-feed.ensures.text in
    rw (p.1, p.2, failed.0)
    (TookPart-write g.T.Runner.costs g.row.N (take c.in-Ok.count space) (omega arith) c.loop-total.invariant.taking
    c.in-Ok.ensures.bytes.0 failed.1)

pub returns-clause-text : goal.returns-clause-text
returns-clause-text g c =
    let all : c.loop-total.total ≡ 16777217 = omega arith in
    TookPart-long g.T.Runner.costs g.row.N (_, c.loop-total.invariant.runs.1) (rw all at c.loop-total.invariant.taking)

pub returns-in_default-clause-counts : goal.returns-in_default-clause-counts
returns-in_default-clause-counts g c = (rw (← c.loop-total.invariant.reads) c.in_default.ensures.counts, c.loop-total.invariant.writes)

pub returns-in_default-clause-runs : goal.returns-in_default-clause-runs
returns-in_default-clause-runs g c = c.loop-total.invariant.runs

pub returns-in_default-clause-room : goal.returns-in_default-clause-room
returns-in_default-clause-room g c = tt

pub returns-in_default-clause-rises : goal.returns-in_default-clause-rises
returns-in_default-clause-rises g c = c.loop-total.invariant.rises

pub returns-then-count-eq0-clause-text : goal.returns-then-count-eq0-clause-text
returns-then-count-eq0-clause-text g c =
    let space = c.read.new.space in
    let buffer = c.loop-total.buffer in
    let room = c.min-room.result in
    let asked : length (take room buffer) ≡ room = length-take-le room buffer (omega arith) in
    let some : 0 < length space = omega (arith, c.read.auto.space, asked, c.min-room.ensures, c.loop-total-test.true) in
    let read = c.in-Ok.ensures.bytes in
    TookIn-from g.T.Runner.costs g.row.N c.loop-total.invariant.taking c.loop-total-test.true (rw c.if-count-eq0.true at read.0)
    (read.1 c.if-count-eq0.true some)

pub returns-then-count-eq0-clause-counts : goal.returns-then-count-eq0-clause-counts
returns-then-count-eq0-clause-counts g c = (c.in-Ok.ensures.counts.1 ∙ c.loop-total.invariant.reads, c.loop-total.invariant.writes)

pub returns-then-count-eq0-clause-runs : goal.returns-then-count-eq0-clause-runs
returns-then-count-eq0-clause-runs g c = c.loop-total.invariant.runs

pub returns-then-count-eq0-clause-room : goal.returns-then-count-eq0-clause-room
returns-then-count-eq0-clause-room g c = omega (arith, c.loop-total.invariant.room, c.loop-total-test.true)

pub returns-then-count-eq0-clause-rises : goal.returns-then-count-eq0-clause-rises
returns-then-count-eq0-clause-rises g c = c.loop-total.invariant.rises

pub returns-in_err-feed-clause-counts : goal.returns-in_err-feed-clause-counts
returns-in_err-feed-clause-counts g c =
    let p = err_from_is_err_and c.from_residual.result c.from_residual.ensures.1 in
    rw (p.1, p.2, c.in_err-feed.ensures.text.0) (
      c.in-Ok.ensures.counts.1 ∙ c.loop-total.invariant.reads,
      rw (← c.loop-total.invariant.writes) c.in_err-feed.ensures.counts,
    )

pub returns-in_err-feed-clause-runs : goal.returns-in_err-feed-clause-runs
returns-in_err-feed-clause-runs g c = c.in_err-feed.ensures.runs

pub returns-in_err-feed-clause-room : goal.returns-in_err-feed-clause-room
returns-in_err-feed-clause-room g c =
    let p = err_from_is_err_and c.from_residual.result c.from_residual.ensures.1 in rw p.1 tt

pub returns-in_err-feed-clause-rises : goal.returns-in_err-feed-clause-rises
returns-in_err-feed-clause-rises g c = omega (arith, c.in_err-feed.ensures.rises, c.loop-total.invariant.rises)

pub returns-clause-counts : goal.returns-clause-counts
returns-clause-counts g c = (c.loop-total.invariant.reads, c.loop-total.invariant.writes)

pub returns-clause-runs : goal.returns-clause-runs
returns-clause-runs g c = c.loop-total.invariant.runs

pub returns-clause-room : goal.returns-clause-room
returns-clause-room g c = tt

pub returns-clause-rises : goal.returns-clause-rises
returns-clause-rises g c = c.loop-total.invariant.rises
