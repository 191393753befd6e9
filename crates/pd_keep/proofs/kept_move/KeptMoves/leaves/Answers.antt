use Rattle.std.proofs.Common.{List, refl, ap, sym, ◌∙◌, subst, slice_index_or}
use Rattle.pd_port.specs.Port.{PortData}
use Rattle.pd_keep.specs.declared.kept_move.Place.{Place}
use Rattle.pd_keep.specs.declared.kept_move.Place.TheVariants.{First}
use Rattle.pd_keep.specs.Kept.{KeptData, RunData, IsKnown, IsLeft, left_by}
use Rattle.pd_keep.proofs.Places.{leaves_is}
use Rattle.pd_keep.proofs.kept_move.KeptMoves.leaves.Goals as goal

pub returns : goal.returns
returns c = λ same x left.
    let p = c.args.port in
    let first : List PortData = c.self.inside.first.items in
    let moves : List KeptData = c.self.inside.moves.items in
    let lasts : List Place = c.self.inside.lasts in
    let last : Place = slice_index_or lasts p First in
    let known : IsKnown first moves p c.args.left x =
    subst (λ (r : RunData). IsKnown r.first r.moves p c.args.left x) (sym c.self.view_is) left in
    let stood : IsLeft first moves p last x = subst (λ o. IsKnown first moves p o x) (c.is_at.ensures.0 same) known in
    leaves_is first moves lasts p last x c.self.invariant.3 c.requires refl stood
    ∙ ap (λ (r : RunData). left_by r.first r.moves p) c.self.view_is
