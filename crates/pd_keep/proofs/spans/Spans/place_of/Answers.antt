use Rattle.std.proofs.Common.{◌≡◌, ℕ, ◌+◌, ◌/◌, ◌<◌, ◌≤◌, List, Some, inl, length, take}
use Rattle.std.proofs.Common.{slice_get, slice_index_or, ap, sym, ◌∙◌, subst, arith}
use Rattle.std.proofs.lemmas.List.{length-map}
use Rattle.std.proofs.lemmas.Option.{slice_get-get_or}
use Rattle.pd_keep.specs.declared.spans.Span.{Span}
use Rattle.pd_keep.specs.Firsts.{AreStarts, span_of}
use Rattle.pd_keep.specs.Kept.{RunData}
use Rattle.pd_keep.specs.Spans.{kept_of_spans}
use Rattle.pd_keep.proofs.Entries.{first_is}
use Rattle.pd_keep.proofs.Starts.{start_early}
use Rattle.pd_keep.proofs.spans.Spans.place_of.Goals as goal

pub loop-place-init : goal.loop-place-init
loop-place-init c =
    let starts : List ℕ = c.self.inside.starts.items in
    let known : AreStarts starts c.args.self.now = subst (λ (l : List RunData). AreStarts starts l) c.self.view_is c.self.invariant.2 in
    let early = start_early starts c.args.self.now c.args.i known in
    let at : c.start_of-place.result ≡ slice_index_or starts (c.args.i / 64) 0 =
    c.start_of-place.ensures ∙ ap (λ (l : List ℕ). slice_index_or l (c.args.i / 64) 0) c.deref.ensures.value in
    record {
      within = subst (λ p. p ≤ length c.args.self.now) (sym at) early.0;
      from = subst (λ p. length (kept_of_spans (take p c.args.self.now)) ≤ c.args.i) (sym at) early.1;
    }

pub loop-place-preserved : goal.loop-place-preserved
loop-place-preserved c =
    let spans : List Span = c.self.inside.spans.items in
    let next = c.loop-place.place + 1 in
    let inside : next < length spans = omega (arith, c.loop-place-test.true, c.len.ensures) in
    let count : length spans ≡ length c.args.self.now = sym (length-map spans span_of) ∙ ap length c.self.view_is in
    let there : slice_get spans next ≡ Some c.index.result.now =
    slice_get-get_or spans next c.index.result.now inside ∙ ap Some (sym c.index.ensures) in
    let first : c.index.result.now.first ≡ length (kept_of_spans (take next c.args.self.now)) =
    first_is spans next c.index.result.now c.self.invariant.0 there
    ∙ ap (λ (l : List RunData). length (kept_of_spans (take next l))) c.self.view_is in
    let early = c.if-index-i.true in
    record { within = omega (arith, inside, count); from = omega (arith, first, early) }

pub returns-else-index-i : goal.returns-else-index-i
returns-else-index-i c =
    let spans : List Span = c.self.inside.spans.items in
    let next = c.loop-place.place + 1 in
    let inside : next < length spans = omega (arith, c.loop-place-test.true, c.len.ensures) in
    let there : slice_get spans next ≡ Some c.index.result.now =
    slice_get-get_or spans next c.index.result.now inside ∙ ap Some (sym c.index.ensures) in
    let first : c.index.result.now.first ≡ length (kept_of_spans (take next c.args.self.now)) =
    first_is spans next c.index.result.now c.self.invariant.0 there
    ∙ ap (λ (l : List RunData). length (kept_of_spans (take next l))) c.self.view_is in
    let late = c.if-index-i.false in
    let less : c.args.i < length (kept_of_spans (take next c.args.self.now)) = omega (arith, first, late) in
    record { from = c.loop-place.invariant.from; to = inl less }
