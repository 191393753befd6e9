use Rattle.std.proofs.Common.{◌≡◌, ◌≤◌, ◌++◌, ◌∷◌, [], List, length, map, take, ap, sym, ◌∙◌, subst, arith}
use Rattle.std.proofs.lemmas.List.{length-map, length_push, map-append, take_at}
use Rattle.pd_keep.specs.declared.spans.Span.{Span}
use Rattle.pd_keep.specs.Firsts.{AreCounted, AreStarts, span_of}
use Rattle.pd_keep.specs.Kept.{RunData}
use Rattle.pd_keep.specs.Spans.{kept_of_spans}
use Rattle.pd_keep.proofs.Entries.{counted_push, count_push}
use Rattle.pd_keep.proofs.Starts.{starts_span}
use Rattle.pd_keep.proofs.spans.Spans.push.Goals as goal

pub invariant_of-self-in_err-push : goal.invariant_of-self-in_err-push
invariant_of-self-in_err-push c =
    let spans : List Span = c.self.inside.spans.items in
    let same : c.push.new.self.items ≡ spans = c.in_err-push.ensures.items in
    subst
    (λ (l : List Span). AreCounted l × (c.self.inside.len ≡ length (kept_of_spans (map span_of l)))
    × AreStarts c.self.inside.starts.items (map span_of l))
    (sym same) c.self.invariant

pub invariant_of-self-2 : goal.invariant_of-self-2
invariant_of-self-2 c =
    let spans : List Span = c.self.inside.spans.items in
    let x : Span = record { first = c.self.inside.len; kept = c.args.kept } in
    let pushed : c.push.new.self.items ≡ spans ++ x ∷ [] = c.in_ok-push.ensures.items in
    let count = count_push spans x in
    let moves = ap (λ (r : RunData). length r.moves) c.deref.ensures in
    let sum : c.in-Some.len ≡ length (kept_of_spans (map span_of (spans ++ x ∷ []))) =
    omega (arith, count, c.self.invariant.1, c.len.ensures, moves) in
    let before : List RunData = map span_of spans in
    let after : List RunData = before ++ span_of x ∷ [] in
    let place = c.len-place.result in
    let alike = length-map spans span_of in
    let is_last : length before ≡ place = omega (arith, alike, c.len-place.ensures) in
    let longer = length_push before (span_of x) in
    let from : length (kept_of_spans (take place after)) ≤ c.self.inside.len =
    let all = ap (λ (l : List RunData). length (kept_of_spans l)) (take_at before (span_of x ∷ []) place is_last) in
    omega (arith, all, c.self.invariant.1) in
    let starts : AreStarts c.put_starts.new.starts.items after =
    c.put_starts.ensures.starts after (omega (arith, is_last, longer)) from
    (starts_span c.self.inside.starts.items before (span_of x) c.self.invariant.2) in (
      subst (λ (l : List Span). AreCounted l) (sym pushed) (counted_push spans x c.self.invariant.0 c.self.invariant.1),
      sum ∙ ap (λ (l : List Span). length (kept_of_spans (map span_of l))) (sym pushed),
      subst (λ (l : List RunData). AreStarts c.put_starts.new.starts.items l)
          (sym (ap (map span_of) pushed ∙ map-append span_of spans (x ∷ []))) starts,
    )
