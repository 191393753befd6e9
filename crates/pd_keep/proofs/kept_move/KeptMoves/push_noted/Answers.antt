use Rattle.std.proofs.Common.{◌≡◌, ◌-◌, ◌<◌, ◌++◌, ◌∷◌, [], List, length, map, ap, sym, ◌∙◌, subst, slice_index_or, arith}
use Rattle.std.proofs.lemmas.Bool.{false≢true}
use Rattle.std.proofs.lemmas.List.{map-append}
use Rattle.pd_port.specs.Port.{PortData}
use Rattle.pd_run.specs.declared.note.Marks.{Marks}
use Rattle.pd_keep.specs.declared.kept_move.Brief.{Brief}
use Rattle.pd_keep.specs.declared.kept_move.Place.{Place}
use Rattle.pd_keep.specs.declared.kept_move.Place.TheVariants.{First}
use Rattle.pd_keep.specs.Kept.{KeptData, RunData, IsLeft, left_by, marks_kept}
use Rattle.pd_keep.specs.Presence.{AreNoted}
use Rattle.pd_keep.proofs.Asked.{brief_more}
use Rattle.pd_keep.proofs.Noted.{noted_more}
use Rattle.pd_keep.proofs.Places.{last_more, linked_more}
use Rattle.pd_keep.proofs.kept_move.KeptMoves.push_noted.Goals as goal

pub invariant_of-self-2 : goal.invariant_of-self-2
invariant_of-self-2 c =
    let first : List PortData = c.self.inside.first.items in
    let moves : List KeptData = c.self.inside.moves.items in
    let lasts : List Place = c.self.inside.lasts in
    let k : KeptData = c.args.kept in
    let p = c.args.port - 1 in
    let link : Place = slice_index_or lasts p First in
    let known : p < 8 = omega arith in
    let own : k.port - 1 ≡ p = ap (λ q. q - 1) (sym c.requires.port) in
    let marks : c.push_reserved.new.self.items ≡ map marks_kept (moves ++ k ∷ []) =
    c.push_reserved.ensures.items
    ∙ ap (λ (l : List Marks). l ++ c.args.marks ∷ []) (c.in_ok-reserve.ensures.items ∙ c.self.invariant.0)
    ∙ ap (λ (m : Marks). map marks_kept moves ++ m ∷ []) c.requires.marks ∙ sym (map-append marks_kept moves (k ∷ [])) in
    let links : c.push_reserved-2.new.self.items ≡ c.self.inside.links.items ++ link ∷ [] =
    c.push_reserved-2.ensures.items ∙ ap (λ (l : List Place). l ++ link ∷ []) c.in_ok-reserve-2.ensures.items in
    let goes : k.before ≡ left_by first moves p = c.requires.goes ∙ ap (λ (r : RunData). left_by r.first r.moves p) (sym c.self.view_is) in
    let stood : IsLeft first moves (k.port - 1) link k.before =
    subst (λ q. IsLeft first moves q link k.before) (sym own)
    (subst (λ (x : PortData). IsLeft first moves p link x) (sym goes) (c.self.invariant.3.last p known)) in
    let briefs : c.push_reserved-3.new.self.items ≡ c.self.inside.briefs.items ++ c.args.brief ∷ [] =
    c.push_reserved-3.ensures.items ∙ ap (λ (l : List Brief). l ++ c.args.brief ∷ []) c.in_ok-reserve-3.ensures.items in
    let noted : AreNoted c.with-presence.result c.push_reserved.new.self.items =
    subst (λ (l : List Marks). AreNoted c.with-presence.result l)
    (sym (c.push_reserved.ensures.items ∙ ap (λ (l : List Marks). l ++ c.args.marks ∷ []) c.in_ok-reserve.ensures.items))
    (noted_more c.self.inside.presence c.with-presence.result c.self.inside.marks.items c.args.marks c.self.invariant.4
    c.with-presence.ensures.contract c.with-presence.ensures.fault) in
    rw c.in_ok-push.ensures.items
    (rw links
    (rw briefs (
      marks,
      linked_more first moves c.self.inside.links.items k link c.self.invariant.1 stood,
      brief_more moves c.self.inside.briefs.items k c.args.brief c.self.invariant.2 c.requires.brief,
      last_more first moves lasts k p c.len.result c.self.invariant.3 own known
          (c.len.ensures ∙ ap (λ (r : RunData). length r.moves) (sym c.self.view_is)),
      noted,
      λ no. absurd (false≢true no),
    )))
