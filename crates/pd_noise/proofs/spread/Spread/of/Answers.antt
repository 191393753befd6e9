use Rattle.std.proofs.Common.{◌≡◌, ℕ, ◌∙◌, List, length, arith, ap, sym}
use Rattle.std.specs.Prelude.{slice_index}
use Rattle.pd_noise.specs.Ranks.{ordered}
use Rattle.pd_noise.proofs.RankLemmas.{is_spread, length_ordered}
use Rattle.pd_noise.proofs.spread.Spread.of.Goals as goal

pub returns : goal.returns
returns c =
    let xs = c.args.numbers.items in
    let order : c.order.new.numbers.items ≡ ordered xs = c.in_ok-order.ensures in
    let count = length_ordered xs in
    let place : ℕ → List ℕ → ℕ = λ k l. slice_index l k in
    sym (is_spread xs c.len-count.result c.saturating_sub-last.result _ _ _ _
    (c.len-count.ensures ∙ sym c.as_slice.ensures.len ∙ ap length (c.as_slice.ensures.value ∙ order) ∙ count)
    (omega arith)
    (c.at.ensures ∙ ap (place 0) (c.as_slice.ensures.value ∙ order))
    (c.at-2.ensures ∙ ap (place _) (c.as_slice-2.ensures.value ∙ order))
    (c.at-3.ensures ∙ ap (place _) (c.as_slice-3.ensures.value ∙ order) ∙ ap (slice_index (ordered xs)) (omega arith))
    (c.at-4.ensures ∙ ap (place _) (c.as_slice-4.ensures.value ∙ order)))
