use Rattle.std.proofs.Common.{◌≡◌, arith, rules}
use Rattle.std.proofs.lemmas.List.Sorted.{answers_always}
use Rattle.pd_save.proofs.Order.{place, in_order}
use Rattle.pd_save.proofs.list.in_order.Goals as goal

pub returns-clause-order : goal.returns-clause-order
returns-clause-order c =
    let sorted = c.sort_by_key.new.self.items in
    in_order sorted (λ k d within. c.in_ok-sort_by_key.ensures.sorted place
    (answers_always _ (λ a r. r ≡ place a.0.now) _ (λ f a r f' called. search rules)) k d (omega arith) within)
