use Rattle.std.proofs.Common.{arith}
use Rattle.std.specs.Str.Lines.{lines}
use Rattle.pd_expect.specs.Tests.{Answer}
use Rattle.pd_expect.proofs.LineLemmas.{line_on, end_on}
use Rattle.pd_expect.proofs.script.test_lines.Goals as goal

pub loop-line-preserved : goal.loop-line-preserved
loop-line-preserved g c =
    let answer : Answer = record { verdict = c.in_ok-verdict.verdict; after = c.answer_line.new.scenario } in
    record {
      cases =
          line_on g.row.N c.args.scenario c.args.name.now (lines c.args.script.now) c.loop-line.scenario c.loop-line.number
          c.loop-line.cases.items c.push_case.new.cases.items c.in_ok-at.at c.in-Some.line.now c.loop-line.rest.now
          (lines c.in-Some.others.now) answer c.loop-line.invariant.cases c.in-Some.ensures.lines c.in_ok-at.ensures
          c.in_ok-verdict.ensures c.in_ok-push_case.ensures;
      count = omega (arith, c.loop-line.invariant.count, c.in-Some.ensures.shorter);
    }

pub returns : goal.returns
returns g c =
    end_on g.row.N c.args.scenario c.args.name.now (lines c.args.script.now) c.loop-line.scenario c.loop-line.number
    c.loop-line.cases.items c.loop-line.rest.now c.loop-line.invariant.cases c.in_default.ensures.lines
