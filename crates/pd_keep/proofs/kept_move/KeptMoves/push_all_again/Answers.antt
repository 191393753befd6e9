use Rattle.std.proofs.Common.{◌-◌, ◌++◌, ◌∷◌, [], List, ap, sym, ◌∙◌, arith, append_assoc, slice_index_or}
use Rattle.pd_keep.specs.Kept.{KeptData, RunData, moves_from}
use Rattle.pd_keep.proofs.Following.{some_kept}
use Rattle.pd_keep.proofs.Places.{moves_from-more}
use Rattle.pd_keep.proofs.kept_move.KeptMoves.push_all_again.Goals as goal

pub loop-i-preserved : goal.loop-i-preserved
loop-i-preserved c =
    let self : RunData = c.args.self.now in
    let moves : List KeptData = c.args.old.now.moves in
    let x = c.loop-i.invariant in
    record {
      pushed = c.in_ok-push_again.ensures some_kept
          ∙ ap (λ (s : RunData). record s { moves = s.moves ++ slice_index_or moves c.loop-i.i some_kept ∷ [] }) x.pushed
          ∙ ap (λ (l : List KeptData). record self { moves = l })
          (append_assoc self.moves (moves_from moves c.args.from (c.loop-i.i - c.args.from))
          (slice_index_or moves c.loop-i.i some_kept ∷ [])
          ∙ ap (λ (l : List KeptData). self.moves ++ l)
          (sym (moves_from-more moves c.args.from c.loop-i.i some_kept (omega arith) (omega arith))));
      within = omega arith;
    }
