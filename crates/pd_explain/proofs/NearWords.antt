-- The first of what may follow of which a word is a slip, a row at a time.
use Rattle.std.proofs.Common.{◌≡◌, ℕ, ◌+◌, ◌<◌, List, [], ◌∷◌, length, drop, get_or, refl, sym, ap, ◌∙◌, Option, Some, None, ◌≤◌}
use Rattle.std.proofs.lemmas.List.{at_drop_more, at_drop_all}
use Rattle.pd_edit_lines.specs.declared.rows.Row.{Row}
use Rattle.pd_explain.specs.Hints.{near_slot, near_word, or_later}

first_row : (word : List ℕ) (row : Row) (rows : List Row)
    → near_word word (row ∷ rows) ≡ or_later (near_slot word row.slot) (near_word word rows)
unfolding near_word
first_row word row rows = refl

no_row : (word : List ℕ) → near_word word [] ≡ None
unfolding near_word
no_row word = refl

at_row : (word : List ℕ) (rows : List Row) (i : ℕ) (d : Row) → i < length rows
    → near_word word (drop i rows) ≡ or_later (near_slot word (get_or rows i d).slot) (near_word word (drop (i + 1) rows))
at_row word rows i d within =
    at_drop_more (near_word word) rows i d within ∙ first_row word (get_or rows i d) (drop (i + 1) rows)

pub later_word : (word : List ℕ) (rows : List Row) (i : ℕ) (d : Row) → i < length rows
    → ◌≡◌ {A = Option (List ℕ)} None (near_slot word (get_or rows i d).slot)
    → near_word word rows ≡ near_word word (drop i rows) → near_word word rows ≡ near_word word (drop (i + 1) rows)
later_word word rows i d within none so_far =
    so_far ∙ at_row word rows i d within ∙ ap (λ o. or_later o (near_word word (drop (i + 1) rows))) (sym none)

pub this_word : (word : List ℕ) (rows : List Row) (i : ℕ) (d : Row) (near : List ℕ) → i < length rows
    → ◌≡◌ {A = Option (List ℕ)} (Some near) (near_slot word (get_or rows i d).slot)
    → near_word word rows ≡ near_word word (drop i rows) → ◌≡◌ {A = Option (List ℕ)} (Some near) (near_word word rows)
this_word word rows i d near within some so_far =
    sym (so_far ∙ at_row word rows i d within ∙ ap (λ o. or_later o (near_word word (drop (i + 1) rows))) (sym some))

pub no_word : (word : List ℕ) (rows : List Row) (i : ℕ) → length rows ≤ i → near_word word rows ≡ near_word word (drop i rows)
    → ◌≡◌ {A = Option (List ℕ)} None (near_word word rows)
no_word word rows i over so_far = sym (so_far ∙ at_drop_all (near_word word) rows i over ∙ no_row word)
