use Rattle.std.proofs.Common.{◌≡◌, ℕ, List, length, map, true, false, ap, sym, ◌∙◌, subst, arith}
use Rattle.std.proofs.lemmas.List.{length-map}
use Rattle.pd_port.specs.declared.entry.Entry.{Entry}
use Rattle.pd_run.specs.Notes.{IsNextMarked, IsNextWith}
use Rattle.pd_run.specs.declared.note.Marks.{Marks}
use Rattle.pd_keep.specs.Kept.{KeptData}
use Rattle.pd_keep.specs.Kept.{RunData, shown_of, marks_kept}
use Rattle.pd_keep.specs.Presence.{AreNoted, MayHave}
use Rattle.pd_keep.proofs.Noted.{marked_next, none_left, none_noted}
use Rattle.pd_keep.proofs.kept_move.KeptMoves.next_with.Goals as goal

pub returns-then-not-may_have : goal.returns-then-not-may_have
returns-then-not-may_have c =
    let note = c.args.note in
    let from = c.args.from in
    let moves : List KeptData = c.self.inside.moves.items in
    let kept : List KeptData = c.args.self.now.moves in
    let kept_is : moves ≡ kept = ap (λ (r : RunData). r.moves) c.self.view_is in
    let noted : AreNoted c.self.inside.presence (map marks_kept kept) =
    subst (λ (l : List Marks). AreNoted c.self.inside.presence l) (c.self.invariant.0 ∙ ap (map marks_kept) kept_is) c.self.invariant.4 in
    let all : List (ℕ × Entry) = map shown_of kept in
    let none : MayHave c.self.inside.presence note → ⊥ =
    λ may. absurd
    (let t : c.may_have.result ≡ true = c.may_have.ensures.1 may in
    let f : c.may_have.result ≡ false = c.if-not-may_have.true in cc) in
    let marks_count = ap length (c.self.invariant.0 ∙ ap (map marks_kept) kept_is) in
    let moves_count = length-map kept marks_kept in
    let count = length-map kept shown_of in
    let len = c.len.ensures in
    let same : c.len.result ≡ length all = omega (arith, marks_count, moves_count, count, len) in
    subst (λ k. IsNextWith note all from k) (sym same)
    (none_left note all from (none_noted c.self.inside.presence note kept noted none from))

pub returns : goal.returns
returns c =
    let note = c.args.note in
    let from = c.args.from in
    let next = c.next_marked.result in
    let moves : List KeptData = c.self.inside.moves.items in
    let marks : c.deref.result.now ≡ map marks_kept moves = c.deref.ensures.value ∙ c.self.invariant.0 in
    let told : IsNextMarked note (map marks_kept moves) from next =
    subst (λ (l : List Marks). IsNextMarked note l from next) marks c.next_marked.ensures in
    subst (λ (l : List KeptData). IsNextWith note (map shown_of l) from next) (ap (λ (r : RunData). r.moves) c.self.view_is)
    (marked_next note moves from next told)
