use Rattle.std.proofs.Common.{◌++◌, ◌∙◌, arith}
use Rattle.std.proofs.lemmas.List.{at_drop_all}
use Rattle.pd_warn.specs.Warnings.{left_part}
use Rattle.pd_warn.proofs.Numbered.{next_left, more_left, all_left}
use Rattle.pd_warn.proofs.run.push_left.Goals as goal

pub loop-watch-preserved : goal.loop-watch-preserved
loop-watch-preserved c = record {
  parts =
      more_left _ c.loop-watch.out.items _ c.loop-watch.port _ _
      (c.loop-watch.invariant.parts
      ∙ next_left (λ ws. c.loop-watch.out.items ++ left_part c.loop-watch.port ws) c.args.watches.now c.loop-watch.watch-index
      c.watch-item.result c.loop-watch-test.true c.watch-item.is)
      c.in_ok-push_unmet.ensures;
  count = omega (arith, c.loop-watch.invariant.count);
}

pub returns : goal.returns
returns c =
    all_left _ c.loop-watch.out.items c.loop-watch.port
    (c.loop-watch.invariant.parts
    ∙ at_drop_all (λ ws. c.loop-watch.out.items ++ left_part c.loop-watch.port ws) c.args.watches.now c.loop-watch.watch-index
    c.loop-watch-test.false)
