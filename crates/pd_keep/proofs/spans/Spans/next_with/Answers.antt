use Rattle.std.proofs.Common.{◌≡◌, ℕ, ◌+◌, ◌-◌, ◌≤◌, List, Some, suc, length, map, take, slice_get, ap, sym, ◌∙◌, subst, arith}
use Rattle.std.proofs.lemmas.Bool.{ltb-false}
use Rattle.std.proofs.lemmas.List.{length-map, take_all}
use Rattle.std.proofs.lemmas.Option.{slice_get-get_or}
use Rattle.pd_port.specs.declared.entry.Entry.{Entry}
use Rattle.pd_run.specs.Notes.{NoneLeaves, IsNextWith}
use Rattle.pd_keep.specs.declared.spans.Span.{Span}
use Rattle.pd_keep.specs.Firsts.{span_of}
use Rattle.pd_keep.specs.Kept.{RunData, shown_of}
use Rattle.pd_keep.specs.Spans.{kept_of_spans}
use Rattle.pd_keep.proofs.Entries.{first_is, span_there}
use Rattle.pd_keep.proofs.Noted.{found_in, none_in, none_left}
use Rattle.pd_keep.proofs.spans.Spans.next_with.Goals as goal

pub loop-span-init : goal.loop-span-init
loop-span-init c = λ i ge lt. absurd (let e = c.place_of-place.ensures.from in omega (arith, e, ge, lt))

pub overflow_add-result : goal.overflow_add-result
overflow_add-result c =
    let spans : List Span = c.self.inside.spans.items in
    let self : List RunData = c.args.self.now in
    let note = c.args.note in
    let from = c.args.from in
    let place = c.loop-span.place in
    let next = c.next_with-next.result in
    let span : Span = c.in-Some.span.now in
    let s : RunData = span_of span in
    let list : List Span = c.deref.result.now in
    let there : slice_get spans place ≡ Some span =
    ap (λ (l : List Span). slice_get l place) (sym c.deref.ensures.value)
    ∙ slice_get-get_or list place span c.in-Some.ensures.lookup.3.0 ∙ ap Some (sym c.in-Some.ensures.lookup.1) in
    let first : span.first ≡ length (kept_of_spans (take place self)) =
    first_is spans place span c.self.invariant.0 there ∙ ap (λ (l : List RunData). length (kept_of_spans (take place l))) c.self.view_is in
    let here : slice_get self place ≡ Some s =
    ap (λ (l : List RunData). slice_get l place) (sym c.self.view_is) ∙ span_there spans place span there in
    let told : IsNextWith note (map shown_of c.deref-in-Some.result.now.moves) c.saturating_sub.result next = c.next_with-next.ensures in
    let local : IsNextWith note (map shown_of s.moves) (from - span.first) next =
    subst (λ n. IsNextWith note (map shown_of s.moves) n next) c.saturating_sub.ensures
    (subst (λ (r : RunData). IsNextWith note (map shown_of r.moves) c.saturating_sub.result next) c.deref-in-Some.ensures told) in
    let none : NoneLeaves note (map shown_of (kept_of_spans self)) from span.first =
    subst (λ k. NoneLeaves note (map shown_of (kept_of_spans self)) from k) (sym first) c.loop-span.invariant in
    let count : c.len.result ≡ length s.moves = c.len.ensures ∙ ap (λ (r : RunData). length r.moves) c.deref-in-Some-2.ensures in
    let found = found_in note self place span.first from next s here first local none (omega (arith, count)) in
    let within = found.within in
    let all = length-map (kept_of_spans self) shown_of in
    let len = c.len-len.ensures in
    omega (arith, within, all, len)

pub returns-then-next-len : goal.returns-then-next-len
returns-then-next-len c =
    let spans : List Span = c.self.inside.spans.items in
    let self : List RunData = c.args.self.now in
    let note = c.args.note in
    let from = c.args.from in
    let place = c.loop-span.place in
    let next = c.next_with-next.result in
    let span : Span = c.in-Some.span.now in
    let s : RunData = span_of span in
    let list : List Span = c.deref.result.now in
    let there : slice_get spans place ≡ Some span =
    ap (λ (l : List Span). slice_get l place) (sym c.deref.ensures.value)
    ∙ slice_get-get_or list place span c.in-Some.ensures.lookup.3.0 ∙ ap Some (sym c.in-Some.ensures.lookup.1) in
    let first : span.first ≡ length (kept_of_spans (take place self)) =
    first_is spans place span c.self.invariant.0 there ∙ ap (λ (l : List RunData). length (kept_of_spans (take place l))) c.self.view_is in
    let here : slice_get self place ≡ Some s =
    ap (λ (l : List RunData). slice_get l place) (sym c.self.view_is) ∙ span_there spans place span there in
    let told : IsNextWith note (map shown_of c.deref-in-Some.result.now.moves) c.saturating_sub.result next = c.next_with-next.ensures in
    let local : IsNextWith note (map shown_of s.moves) (from - span.first) next =
    subst (λ n. IsNextWith note (map shown_of s.moves) n next) c.saturating_sub.ensures
    (subst (λ (r : RunData). IsNextWith note (map shown_of r.moves) c.saturating_sub.result next) c.deref-in-Some.ensures told) in
    let none : NoneLeaves note (map shown_of (kept_of_spans self)) from span.first =
    subst (λ k. NoneLeaves note (map shown_of (kept_of_spans self)) from k) (sym first) c.loop-span.invariant in
    let count : c.len.result ≡ length s.moves = c.len.ensures ∙ ap (λ (r : RunData). length r.moves) c.deref-in-Some-2.ensures in
    found_in note self place span.first from next s here first local none (omega (arith, count))

pub loop-span-preserved : goal.loop-span-preserved
loop-span-preserved c =
    let spans : List Span = c.self.inside.spans.items in
    let self : List RunData = c.args.self.now in
    let note = c.args.note in
    let from = c.args.from in
    let place = c.loop-span.place in
    let next = c.next_with-next.result in
    let span : Span = c.in-Some.span.now in
    let s : RunData = span_of span in
    let list : List Span = c.deref.result.now in
    let there : slice_get spans place ≡ Some span =
    ap (λ (l : List Span). slice_get l place) (sym c.deref.ensures.value)
    ∙ slice_get-get_or list place span c.in-Some.ensures.lookup.3.0 ∙ ap Some (sym c.in-Some.ensures.lookup.1) in
    let first : span.first ≡ length (kept_of_spans (take place self)) =
    first_is spans place span c.self.invariant.0 there ∙ ap (λ (l : List RunData). length (kept_of_spans (take place l))) c.self.view_is in
    let here : slice_get self place ≡ Some s =
    ap (λ (l : List RunData). slice_get l place) (sym c.self.view_is) ∙ span_there spans place span there in
    let told : IsNextWith note (map shown_of c.deref-in-Some.result.now.moves) c.saturating_sub.result next = c.next_with-next.ensures in
    let local : IsNextWith note (map shown_of s.moves) (from - span.first) next =
    subst (λ n. IsNextWith note (map shown_of s.moves) n next) c.saturating_sub.ensures
    (subst (λ (r : RunData). IsNextWith note (map shown_of r.moves) c.saturating_sub.result next) c.deref-in-Some.ensures told) in
    let none : NoneLeaves note (map shown_of (kept_of_spans self)) from span.first =
    subst (λ k. NoneLeaves note (map shown_of (kept_of_spans self)) from k) (sym first) c.loop-span.invariant in
    let count : c.len.result ≡ length s.moves = c.len.ensures ∙ ap (λ (r : RunData). length r.moves) c.deref-in-Some-2.ensures in
    let one : suc place ≡ place + 1 = omega arith in
    subst (λ k. NoneLeaves note (map shown_of (kept_of_spans self)) from (length (kept_of_spans (take k self)))) one
    (none_in note self place span.first from next s here first local none (omega (arith, count)))

pub returns : goal.returns
returns c =
    let spans : List Span = c.self.inside.spans.items in
    let self : List RunData = c.args.self.now in
    let note = c.args.note in
    let from = c.args.from in
    let place = c.loop-span.place in
    let list : List Span = c.deref.result.now in
    let all : List (ℕ × Entry) = map shown_of (kept_of_spans self) in
    let past : length list ≤ place = ltb-false place (length list) (sym c.in_default.ensures.lookup.0) in
    let list_count = ap length c.deref.ensures.value in
    let spans_count = length-map spans span_of in
    let self_count = ap length c.self.view_is in
    let whole : take place self ≡ self = take_all place self (omega (arith, past, list_count, spans_count, self_count)) in
    let moves : length (kept_of_spans (take place self)) ≡ length (kept_of_spans self) =
    ap (λ (l : List RunData). length (kept_of_spans l)) whole in
    let count = length-map (kept_of_spans self) shown_of in
    let same : length (kept_of_spans (take place self)) ≡ length all = omega (arith, moves, count) in
    let len = c.len-len.ensures in
    let result : c.len-len.result ≡ length all = omega (arith, len, count) in
    subst (λ k. IsNextWith note all from k) (sym result)
    (none_left note all from (subst (λ k. NoneLeaves note all from k) same c.loop-span.invariant))
