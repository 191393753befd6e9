-- A move among spans.
use Rattle.std.proofs.Common.{◌≡◌, ◌≢◌, ⊎_elim, ℕ, zero, suc, ◌+◌, ◌-◌, ◌<◌, ◌≤◌}
use Rattle.std.proofs.Common.{List, [], ◌∷◌, ◌++◌, length, map, take, drop, Some, slice_get}
use Rattle.std.proofs.Common.{refl, ap, sym, ◌∙◌, arith, option_map}
use Rattle.std.proofs.lemmas.List.{append-nil, length-append, drop_all, take-map, map-append, length_push, take_at, take-append-le}
use Rattle.std.proofs.lemmas.Bool.{cases_eq}
use Rattle.std.proofs.lemmas.Option.{slice_get-map, slice_get_within}
use Rattle.pd_keep.specs.declared.spans.Span.{Span}
use Rattle.pd_keep.specs.Firsts.{AreCounted, IsPlaceOf, span_of}
use Rattle.pd_keep.specs.Kept.{KeptData}
use Rattle.pd_keep.specs.Kept.{RunData}
use Rattle.pd_keep.specs.Spans.{kept_of_spans}
use Rattle.pd_keep.proofs.Parted.{kept_next, kept_split, kept_push, get_push_last, get_push_other}

pub get_right : {X : Type 0} (xs ys : List X) (n i : ℕ) → n ≡ length xs + i → slice_get (xs ++ ys) n ≡ slice_get ys i
get_right [] ys n i e = ap (slice_get ys) (let h : n ≡ i = omega arith in h)
get_right (x ∷ xs) ys zero i e = absurd (omega arith)
get_right (x ∷ xs) ys (suc n) i e = get_right xs ys n i (omega arith)

pub get_left : {X : Type 0} (xs ys : List X) (i : ℕ) → i < length xs → slice_get (xs ++ ys) i ≡ slice_get xs i
get_left [] ys i lt = absurd (omega arith)
get_left (x ∷ xs) ys zero lt = refl
get_left (x ∷ xs) ys (suc i) lt = get_left xs ys i (omega arith)

-- a move of a run is one of its span
pub move_in_span : (spans : List RunData) (i place : ℕ) (s : RunData) → IsPlaceOf spans i place → slice_get spans place ≡ Some s
    → slice_get s.moves (i - length (kept_of_spans (take place spans))) ≡ slice_get (kept_of_spans spans) i
move_in_span spans i place s is e =
    let x : List KeptData = kept_of_spans (take place spans) in
    let z : List KeptData = kept_of_spans (drop (suc place) spans) in
    let from = is.from in
    let split = kept_split spans place s e in
    let middle : slice_get (x ++ s.moves) i ≡ slice_get s.moves (i - length x) = get_right x s.moves i (i - length x) (omega arith) in
    ⊎_elim
    (λ (inside : i < length (kept_of_spans (take (place + 1) spans))).
    let next = ap length (kept_next spans place s e) in
    let one : suc place ≡ place + 1 = omega arith in
    let upto : length (kept_of_spans (take (place + 1) spans)) ≡ length (x ++ s.moves) =
    ap (λ k. length (kept_of_spans (take k spans))) (sym one) ∙ next in
    sym (ap (λ (l : List KeptData). slice_get l i) split ∙ get_left (x ++ s.moves) z i (omega arith) ∙ middle))
    (λ (last : length spans ≤ place + 1).
    let none : z ≡ [] = ap kept_of_spans (drop_all (suc place) spans (omega arith)) in
    sym (ap (λ (l : List KeptData). slice_get l i)
    (split ∙ ap (λ (l : List KeptData). (x ++ s.moves) ++ l) none ∙ append-nil (x ++ s.moves))
    ∙ middle))
    is.to

-- the number of moves before a span
pub first_is : (spans : List Span) (k : ℕ) (s : Span) → AreCounted spans → slice_get spans k ≡ Some s
    → s.first ≡ length (kept_of_spans (take k (map span_of spans)))
first_is spans k s counted e =
    counted k s e ∙ ap (λ (l : List RunData). length (kept_of_spans l)) (sym (take-map span_of k spans))

pub span_there : (spans : List Span) (k : ℕ) (s : Span) → slice_get spans k ≡ Some s → slice_get (map span_of spans) k ≡ Some (span_of s)
span_there spans k s e = slice_get-map span_of spans k ∙ ap (λ o. option_map span_of o) e

-- one more span is counted too
pub counted_push : (spans : List Span) (x : Span) → AreCounted spans → x.first ≡ length (kept_of_spans (map span_of spans))
    → AreCounted (spans ++ x ∷ [])
counted_push spans x counted first k s e =
    let within = slice_get_within (spans ++ x ∷ []) k s e in
    let count = length_push spans x in
    let before : List Span → ℕ = λ l. length (kept_of_spans (map span_of l)) in
    ⊎_elim
    (λ (last : k ≡ length spans).
    let is : x ≡ s = get_push_last spans x s k last e in
    ap (λ (y : Span). y.first) (sym is) ∙ first ∙ ap before (sym (take_at spans (x ∷ []) k (sym last))))
    (λ (other : k ≢ length spans).
    let inside : k < length spans = omega arith in
    counted k s (sym (get_push_other spans x k inside) ∙ e) ∙ ap before (sym (take-append-le k spans (x ∷ []) (omega arith))))
    (cases_eq k (length spans))

pub count_push : (spans : List Span) (x : Span)
    → length (kept_of_spans (map span_of (spans ++ x ∷ []))) ≡ length (kept_of_spans (map span_of spans)) + length (span_of x).moves
count_push spans x =
    ap (λ (l : List RunData). length (kept_of_spans l)) (map-append span_of spans (x ∷ []))
    ∙ ap length (kept_push (map span_of spans) (span_of x)) ∙ length-append (kept_of_spans (map span_of spans)) (span_of x).moves
