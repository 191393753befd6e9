use Rattle.std.proofs.Common.{◌≡◌, ◌-◌, ◌∙◌, arith, sym, subst, slice_index_or}
use Rattle.std.proofs.lemmas.Bool.{false≢true}
use Rattle.pd_keep.specs.declared.rank.Rank.{Rank}
use Rattle.pd_keep.specs.Kept.{rank_kept}
use Rattle.pd_keep.specs.Ranks.{IsBefore}
use Rattle.pd_keep.proofs.Ranks.{ranked_more}
use Rattle.pd_keep.proofs.kept_move.KeptMoves.rises.Goals as goal

pub loop-i-preserved : goal.loop-i-preserved
loop-i-preserved c =
    ranked_more c.args.self.now.moves c.loop-i.i c.loop-i.invariant
    (λ k before.
    false≢true (sym c.if-is_before.false ∙ c.is_before.ensures.1
    (subst (λ (r : Rank). IsBefore r c.rank-in-loop-i.result) (sym (c.rank.ensures k))
    (subst (λ (r : Rank). IsBefore (rank_kept (slice_index_or c.args.self.now.moves c.loop-i.i k)) r) (sym (c.rank-in-loop-i.ensures k))
    before))))

pub returns : goal.returns
returns c = λ _ i j k lt few. c.loop-i.invariant i j k lt (let len = c.len-i-end.ensures in omega arith)
