use Rattle.std.proofs.Common.{◌≡◌, ◌<◌, List, length, ap, sym, ◌∙◌, subst, slice_index_or}
use Rattle.std.proofs.lemmas.List.{get_or-map}
use Rattle.pd_run.specs.declared.note.Marks.{Marks}
use Rattle.pd_keep.specs.Kept.{KeptData, RunData, marks_kept}
use Rattle.pd_keep.proofs.kept_move.KeptMoves.marks.Goals as goal

pub returns : goal.returns
returns c = λ k.
    let moves : List KeptData = c.self.inside.moves.items in
    let m : Marks = c.index.result.now in
    let is : moves ≡ c.args.self.now.moves = ap (λ (r : RunData). r.moves) c.self.view_is in
    let inside : c.args.i < length moves = subst (λ (l : List KeptData). c.args.i < length l) (sym is) c.requires in
    c.index.ensures ∙ ap (λ (l : List Marks). slice_index_or l c.args.i m) c.self.invariant.0
    ∙ get_or-map marks_kept moves c.args.i k m inside ∙ ap (λ (l : List KeptData). marks_kept (slice_index_or l c.args.i k)) is
