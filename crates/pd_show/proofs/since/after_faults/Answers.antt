use Rattle.pd_show.proofs.SinceLemmas.{last_fault_at, none_at}
use Rattle.pd_show.proofs.since.after_faults.Goals as goal

pub returns-then-is_empty : goal.returns-then-is_empty
returns-then-is_empty c = none_at c.args.before c.args.seen.now c.args.faults.now c.is_empty.result c.is_empty.ensures c.if-is_empty.true

pub returns-else-is_empty : goal.returns-else-is_empty
returns-else-is_empty c =
    last_fault_at c.args.before c.args.seen.now c.args.faults.now c.is_empty.result c.is_empty.ensures c.if-is_empty.false
