use Rattle.std.proofs.Common.{◌<◌, arith, rules, sym, nat_le}
use Rattle.std.proofs.lemmas.List.Sorted.{IsPartitionPoint-from_clause, IsPartitionedBy-leb}
use Rattle.pd_scenario.specs.declared.budget.BudgetChange.{BudgetChange}
use Rattle.pd_scenario.specs.ByTime.{IsByTime}
use Rattle.pd_scenario.proofs.ByTime.{Parted, times_rise, none_found, one_found}
use Rattle.pd_scenario.proofs.changes.Changes.last_by.Goals as goal

pub returns-then-count-eq0 : goal.returns-then-count-eq0
returns-then-count-eq0 c =
    let changes = c.args.self.now in
    let slice = c.deref.result.now in
    let is : IsByTime changes slice = rw (← c.self.view_is, c.deref.ensures.value) c.self.invariant in
    let parted : Parted slice c.args.at c.partition_point-count.result =
    IsPartitionPoint-from_clause (λ (x : BudgetChange). nat_le x.at c.args.at) slice c.partition_point-count.result
    c.partition_point-count.ensures.partitioned
    (IsPartitionedBy-leb (λ (x : BudgetChange). x.at) slice c.args.at (times_rise changes slice is)) (λ a r f k. search rules) in
    sym (none_found changes slice c.args.at is (rw c.if-count-eq0.true at parted))

pub returns-else-count-eq0 : goal.returns-else-count-eq0
returns-else-count-eq0 c =
    let changes = c.args.self.now in
    let slice = c.deref.result.now in
    let count = c.partition_point-count.result in
    let same = c.deref.ensures.value in
    let is : IsByTime changes slice = rw (← c.self.view_is, same) c.self.invariant in
    let parted : Parted slice c.args.at count =
    IsPartitionPoint-from_clause (λ (x : BudgetChange). nat_le x.at c.args.at) slice count c.partition_point-count.ensures.partitioned
    (IsPartitionedBy-leb (λ (x : BudgetChange). x.at) slice c.args.at (times_rise changes slice is)) (λ a r f k. search rules) in
    let some : 0 < count = let other = c.if-count-eq0.false in omega arith in
    sym (one_found changes slice c.args.at count c.index.result.now is parted some c.partition_point-count.ensures.bound
    (rw same c.index.ensures))
