use Rattle.std.proofs.Common.{◌≡◌, ◌∙◌, arith, rules}
use Rattle.std.proofs.lemmas.Fn.{dedup_same}
use Rattle.std.proofs.lemmas.List.Sorted.{answers_always}
use Rattle.pd_scenario.proofs.Sorted.{place, same_place, rises, sorted_is}
use Rattle.pd_scenario.proofs.order.in_order.Goals as goal

pub returns : goal.returns
returns g c =
    let made = c.args.made.items in
    let sorted = c.sort_by_key.new.self.items in
    let kept = dedup_same _ same_place _ (λ x y b f' x' y' k. search rules) _ _ c.dedup_by_key.ensures.filtered in
    let up = rises sorted (λ k d within. c.in_ok-sort_by_key.ensures.sorted place
    (answers_always _ (λ a r. r ≡ place a.0.now) _ (λ f a r f' called. search rules)) k d (omega arith) within) in
    kept ∙ sorted_is made sorted (λ f g f_at g_at same. c.requires f g f_at g_at same.at same.number) c.sort_by_key.ensures.permutation up
