-- How the lines that aren't in another text are told, one after the other.
use Rattle.std.proofs.Common.{◌≡◌, ℕ, List, [], ◌∷◌, ◌++◌, Some, None, refl, sym, ap, ◌∙◌, append_assoc}
use Rattle.std.proofs.lemmas.List.{append-nil}
use Rattle.std.specs.Str.Lines.{lines}
use Rattle.pd_edit_lines.specs.Words.{next}
use Rattle.pd_desk.specs.Diff.{own_line, own_lines}

next_some : (ls : List (List ℕ)) (line : List ℕ) (more : List (List ℕ)) → Some (line, more) ≡ next ls → ls ≡ line ∷ more
next_some [] line more e = absurd (cc)
next_some (w ∷ ws) line more e =
    let pair : (line, more) ≡ (w, ws) = cc in sym (ap (λ (p : List ℕ × List (List ℕ)). p.0 ∷ p.1) pair)

next_none : (ls : List (List ℕ)) → None ≡ next ls → ls ≡ []
next_none [] e = refl
next_none (w ∷ ws) e = absurd (cc)

own_first : (sign : ℕ) (others : List (List ℕ)) (line : List ℕ) (more : List (List ℕ))
    → own_lines sign others (line ∷ more) ≡ own_line sign others line ++ own_lines sign others more
unfolding own_lines
own_first sign others line more = refl

own_none : (sign : ℕ) (others : List (List ℕ)) → own_lines sign others [] ≡ []
unfolding own_lines
own_none sign others = refl

-- one more line
pub more_told : (whole said said' : List ℕ) (sign : ℕ) (others : List (List ℕ)) (line rest : List ℕ) (more : List (List ℕ))
    → said ++ own_lines sign others (lines rest) ≡ whole → Some (line, more) ≡ next (lines rest) → said' ≡ said ++ own_line sign others line
    → said' ++ own_lines sign others more ≡ whole
more_told whole said said' sign others line rest more so_far is told =
    ap (λ t. t ++ own_lines sign others more) told ∙ append_assoc said (own_line sign others line) (own_lines sign others more)
    ∙ ap (λ t. said ++ t) (sym (own_first sign others line more))
    ∙ ap (λ ls. said ++ own_lines sign others ls) (sym (next_some (lines rest) line more is)) ∙ so_far

-- no line any more
pub all_told : (whole said : List ℕ) (sign : ℕ) (others : List (List ℕ)) (rest : List ℕ)
    → said ++ own_lines sign others (lines rest) ≡ whole → None ≡ next (lines rest) → said ≡ whole
all_told whole said sign others rest so_far is =
    sym (append-nil said) ∙ ap (λ t. said ++ t) (sym (own_none sign others))
    ∙ ap (λ ls. said ++ own_lines sign others ls) (sym (next_none (lines rest) is)) ∙ so_far
