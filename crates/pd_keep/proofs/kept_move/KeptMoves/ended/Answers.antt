use Rattle.std.proofs.Common.{◌≡◌, List, ap, sym, subst}
use Rattle.pd_keep.specs.Kept.{KeptData, RunData, AreRanked}
use Rattle.pd_keep.proofs.kept_move.KeptMoves.ended.Goals as goal

pub invariant_of-ended : goal.invariant_of-ended
invariant_of-ended c =
    let i = c.ended.invariant in
    let moves_is : c.ended.inside.moves.items ≡ c.args.self.moves = ap (λ (r : RunData). r.moves) c.ended.view_is in (
      i.0,
      i.1,
      i.2,
      i.3,
      i.4,
      λ yes. subst (λ (l : List KeptData). AreRanked l) (sym moves_is) (c.rises-ranked.ensures yes),
    )
