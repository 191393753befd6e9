-- What is told of what stands behind the first of a list.
use Rattle.std.proofs.Common.{◌≡◌, ℕ, ◌-◌, List, ◌++◌, length, take, map, sym, ap, ◌∙◌, append_assoc}
use Rattle.std.proofs.lemmas.List.{take-map, length-map}
use Rattle.pd_explain.specs.Sentences.{behind_commas, most_others, more_text, others_text}

others_are : {X : Type 0} (word : X → List ℕ) (others : List X)
    → others_text (map word others)
    ≡ behind_commas (map word (take most_others others)) ++ more_text (length others - most_others)
unfolding others_text
others_are word others =
    ap (λ ws. behind_commas ws ++ more_text (length (map word others) - most_others)) (take-map word most_others others)
    ∙ ap (λ n. behind_commas (map word (take most_others others)) ++ more_text (n - most_others)) (length-map others word)

-- the words of those that are told, and how many more there are
pub both_told : {X : Type 0} (word : X → List ℕ) (others some : List X) (text words all : List ℕ) → some ≡ take most_others others
    → words ≡ text ++ behind_commas (map word some) → all ≡ words ++ more_text (length others - most_others)
    → all ≡ text ++ others_text (map word others)
both_told word others some text words all first words_are more =
    more ∙ ap (λ t. t ++ more_text (length others - most_others)) words_are
    ∙ append_assoc text (behind_commas (map word some)) (more_text (length others - most_others))
    ∙ ap (λ xs. text ++ (behind_commas (map word xs) ++ more_text (length others - most_others))) first
    ∙ ap (λ t. text ++ t) (sym (others_are word others))
