use Rattle.std.proofs.Common.{◌≡◌, ◌-◌, List, Some, length, take, slice_get, option_map, ap, sym, ◌∙◌, arith}
use Rattle.std.proofs.lemmas.Option.{slice_get-get_or}
use Rattle.pd_keep.specs.declared.spans.Span.{Span}
use Rattle.pd_keep.specs.Firsts.{span_of}
use Rattle.pd_keep.specs.Kept.{RunData, shown_of}
use Rattle.pd_keep.specs.Spans.{kept_of_spans}
use Rattle.pd_keep.proofs.Entries.{first_is, move_in_span, span_there}
use Rattle.pd_keep.proofs.spans.Spans.entry.Goals as goal

pub overflow_sub-i : goal.overflow_sub-i
overflow_sub-i c =
    let spans : List Span = c.self.inside.spans.items in
    let place = c.place_of-place.result in
    let span : Span = c.in_ok-span.span.now in
    let list : List Span = c.deref.result.now in
    let there : slice_get spans place ≡ Some span =
    ap (λ (l : List Span). slice_get l place) (sym c.deref.ensures.value)
    ∙ slice_get-get_or list place span c.in_ok-span.ensures.lookup.3.0 ∙ ap Some (sym c.in_ok-span.ensures.lookup.1) in
    let first : span.first ≡ length (kept_of_spans (take place c.args.self.now)) =
    first_is spans place span c.self.invariant.0 there ∙ ap (λ (l : List RunData). length (kept_of_spans (take place l))) c.self.view_is in
    omega (arith, first, c.place_of-place.ensures.from)

pub returns : goal.returns
returns c =
    let spans : List Span = c.self.inside.spans.items in
    let place = c.place_of-place.result in
    let span : Span = c.in_ok-span.span.now in
    let list : List Span = c.deref.result.now in
    let there : slice_get spans place ≡ Some span =
    ap (λ (l : List Span). slice_get l place) (sym c.deref.ensures.value)
    ∙ slice_get-get_or list place span c.in_ok-span.ensures.lookup.3.0 ∙ ap Some (sym c.in_ok-span.ensures.lookup.1) in
    let first : span.first ≡ length (kept_of_spans (take place c.args.self.now)) =
    first_is spans place span c.self.invariant.0 there ∙ ap (λ (l : List RunData). length (kept_of_spans (take place l))) c.self.view_is in
    let here : slice_get c.args.self.now place ≡ Some (span_of span) =
    ap (λ (l : List RunData). slice_get l place) (sym c.self.view_is) ∙ span_there spans place span there in
    c.entry.ensures ∙ ap (λ (r : RunData). option_map shown_of (slice_get r.moves (c.args.i - span.first))) c.deref-2.ensures
    ∙ ap (λ n. option_map shown_of (slice_get (span_of span).moves (c.args.i - n))) first
    ∙ ap (option_map shown_of) (move_in_span c.args.self.now c.args.i place (span_of span) c.place_of-place.ensures here)
