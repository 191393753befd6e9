use Rattle.std.proofs.Common.{◌-◌, ◌%◌, arith}
use Rattle.pd_keep.proofs.InTime.{all_before}
use Rattle.pd_keep.proofs.one_span.end_before.Goals as goal

pub returns-then-time-end : goal.returns-then-time-end
returns-then-time-end c = (
  omega arith,
  omega arith,
  all_before c.args.span.now.moves (c.len-2.result - 1) (c.args.time - c.args.time % 131072) c.requires (omega arith)
      (λ e. let is = c.time.ensures e in omega (arith, is)),
)
