use Rattle.std.proofs.lemmas.Result.{on_ok_weaker}
use Rattle.std.proofs.lemmas.List.Sorted.{IsNonDecreasingBy-from_sort}
use Rattle.pd_noise.proofs.RankLemmas.{is_ordered}
use Rattle.pd_noise.proofs.spread.order.Goals as goal

pub returns : goal.returns
returns c =
    let old = c.args.numbers.now.items in
    let new = c.sort.new.self.items in
    on_ok_weaker c.sort.result (λ sorted. is_ordered old new c.sort.ensures.permutation (IsNonDecreasingBy-from_sort (λ n. n) new sorted))
    c.sort.ensures.sorted
