use Rattle.std.proofs.Common.{◌≡◌, ◌<◌, ◌-◌, List, length, ap, sym, ◌∙◌, subst, slice_index_or, arith}
use Rattle.std.proofs.lemmas.List.{get_or_default}
use Rattle.pd_port.specs.Port.{PortData}
use Rattle.pd_keep.specs.declared.kept_move.Place.{Place}
use Rattle.pd_keep.specs.declared.kept_move.Place.TheVariants.{First}
use Rattle.pd_keep.specs.Kept.{KeptData, RunData, IsKnown, IsLeft}
use Rattle.pd_keep.proofs.Places.{follows_is}
use Rattle.pd_keep.proofs.kept_move.KeptMoves.follows.Goals as goal

pub returns : goal.returns
returns c = λ same x k left.
    let i = c.args.i in
    let first : List PortData = c.self.inside.first.items in
    let moves : List KeptData = c.self.inside.moves.items in
    let links : List Place = c.self.inside.links.items in
    let is : moves ≡ c.args.self.now.moves = ap (λ (r : RunData). r.moves) c.self.view_is in
    let inside : i < length moves = subst (λ (l : List KeptData). i < length l) (sym is) c.requires in
    let linked = c.self.invariant.1 in
    let count = linked.count in
    let link : slice_index_or links i First ≡ c.index.result.now =
    get_or_default links i First c.index.result.now (omega (arith, count, inside)) ∙ sym c.index.ensures in
    let known : IsKnown first moves ((slice_index_or moves i k).port - 1) c.args.left x =
    subst (λ (r : RunData). IsKnown r.first r.moves ((slice_index_or r.moves i k).port - 1) c.args.left x) (sym c.self.view_is) left in
    let stood : IsLeft first moves ((slice_index_or moves i k).port - 1) c.index.result.now x =
    subst (λ o. IsKnown first moves ((slice_index_or moves i k).port - 1) o x) (c.is_at.ensures.0 same) known in
    ap (λ (l : List KeptData). (slice_index_or l i k).before) (sym is)
    ∙ follows_is first moves links i c.index.result.now x k linked inside link stood
