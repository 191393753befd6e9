-- The number of a line, a byte on.
use Rattle.std.proofs.Common.{◌≡◌, ℕ, ◌+◌, ◌-◌, ◌<◌, false, ◌==◌, List, [], ◌∷◌, ◌++◌, length, take, get_or, refl, sym, ap, ◌∙◌, arith}
use Rattle.std.specs.Prelude.{filter, slice_index}
use Rattle.std.proofs.lemmas.List.{append-nil, length-append, take_more}
use Rattle.std.proofs.lemmas.List.Elements.{filter-append}
use Rattle.pd_misfits.specs.Texts.{ends_line, line_at}

ends_of : (text : List ℕ) (i : ℕ) (last : List ℕ) → i < length text → filter ends_line (get_or text i 0 ∷ []) ≡ last
    → filter ends_line (take (i + 1) text) ≡ filter ends_line (take i text) ++ last
ends_of text i last within is =
    ap (filter ends_line) (take_more text i 0 within) ∙ filter-append ends_line (take i text) (get_or text i 0 ∷ [])
    ∙ ap (λ v. filter ends_line (take i text) ++ v) is

pub next_line : (text : List ℕ) (i : ℕ) → i < length text → get_or text i 0 ≡ 10 → line_at text i + 1 ≡ line_at text (i + 1)
next_line text i within is =
    let last : filter ends_line (get_or text i 0 ∷ []) ≡ 10 ∷ [] = rw is refl in
    let long = length-append (filter ends_line (take i text)) (10 ∷ []) in
    let len = ap length (ends_of text i (10 ∷ []) within last) ∙ long in
    omega (arith, len)

pub same_line : (text : List ℕ) (i : ℕ) → i < length text → (get_or text i 0 == 10) ≡ false → line_at text i ≡ line_at text (i + 1)
same_line text i within other =
    let last : filter ends_line (get_or text i 0 ∷ []) ≡ [] = rw other refl in
    let same = ends_of text i [] within last ∙ append-nil (filter ends_line (take i text)) in
    ap (λ v. 1 + length v) (sym same)

pub byte_before : (text : List ℕ) (i : ℕ) → get_or text i 0 ≡ 10 → slice_index text (i + 1 - 1) ≡ 10
byte_before text i is =
    let same : i + 1 - 1 ≡ i = omega arith in
    ap (λ n. slice_index text n) same ∙ is
