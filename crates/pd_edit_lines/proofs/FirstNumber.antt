-- Words that begin with a number.
use Rattle.std.proofs.Common.{◌≡◌, ℕ, List, [], ◌∷◌, sym, ap, Some, None}
use Rattle.std.specs.Prelude.{Option, option_and_then, option_map}
use Rattle.pd_edit_lines.specs.Words.{number, number_at}
use Rattle.pd_edit_lines.specs.Grammar.{Words}

-- a list begins with the word of a number, and the others follow
pub record BeginsWith (ws : Words) (n : ℕ) (others : Words) : Type 0 where
  pub word : List ℕ
  pub are : ws ≡ word ∷ others
  pub is : number word ≡ Some n

abbrev pub with_others : Words → ℕ → Option (ℕ × Words)
with_others ws n = Some (n, ws)

of_word : (o : Option ℕ) (ws : Words) (n : ℕ) (others : Words) → with_others others n ≡ option_and_then (with_others ws) o → (o ≡ Some n)
    × (ws ≡ others)
of_word None ws n others h = absurd (cc)
of_word (Some m) ws n others h =
    let number_is = ap (λ (o : Option (ℕ × Words)). option_map (λ (p : ℕ × Words). p.0) o) h in
    let words_are = ap (λ (o : Option (ℕ × Words)). option_map (λ (p : ℕ × Words). p.1) o) h in
    (sym number_is, cc)

pub begins : (ws : Words) (n : ℕ) (others : Words) → Some (n, others) ≡ number_at ws → BeginsWith ws n others
begins [] n others h = absurd (cc)
begins (w ∷ ws) n others h =
    let both = of_word (number w) ws n others h in
    record { word = w; are = rw both.1; is = both.0 }
