-- The words that commas part, byte by byte.
use Rattle.std.proofs.Common.{◌≡◌, ℕ, ◌==◌, Bool, true, false, cond, List, [], ◌∷◌, ◌++◌, refl, sym, ap, append_assoc, ◌∙◌}
use Rattle.std.proofs.lemmas.List.{append-nil}
use Rattle.pd_vary.specs.Sets.{joined, parts, with_front}

-- no text is parted to nothing
record IsSome (ws : List (List ℕ)) : Type 0 where
  first : List ℕ
  more : List (List ℕ)
  is : ws ≡ first ∷ more

front_some : (c : ℕ) (ws : List (List ℕ)) → IsSome (with_front c ws)
front_some c [] = record { first = c ∷ []; more = []; is = refl }
front_some c (w ∷ ws) = record { first = c ∷ w; more = ws; is = refl }

choice_some : (b : Bool) (c : ℕ) (ws : List (List ℕ)) → IsSome (cond b ([] ∷ ws) (with_front c ws))
choice_some true c ws = record { first = []; more = ws; is = refl }
choice_some false c ws = front_some c ws

parts_some : (text : List ℕ) → IsSome (parts text)
unfolding parts
parts_some [] = record { first = []; more = []; is = refl }
parts_some (c ∷ cs) = choice_some (c == 44) c (parts cs)

-- no byte has begun
pub joined_none : (text : List ℕ) → parts text ≡ joined [] (parts text)
joined_none text = let some = parts_some text in rw (some.is) refl

-- a comma ends the word
pub joined_comma : (ws : List (List ℕ)) (word cs : List ℕ) (c : ℕ) → (c == 44) ≡ true
    → ws ++ joined word (parts (c ∷ cs)) ≡ (ws ++ word ∷ []) ++ joined [] (parts cs)
unfolding parts
joined_comma ws word cs c is =
    ap (λ b. ws ++ joined word (cond b ([] ∷ parts cs) (with_front c (parts cs)))) is
    ∙ ap (λ w. ws ++ w ∷ parts cs) (append-nil word)
    ∙ sym (append_assoc ws (word ∷ []) (parts cs))
    ∙ ap (λ v. (ws ++ word ∷ []) ++ v) (joined_none cs)

-- another byte goes to it
pub joined_byte : (ws : List (List ℕ)) (word cs : List ℕ) (c : ℕ) → (c == 44) ≡ false
    → ws ++ joined word (parts (c ∷ cs)) ≡ ws ++ joined (word ++ c ∷ []) (parts cs)
unfolding parts
joined_byte ws word cs c not =
    let some = parts_some cs in
    ap (λ b. ws ++ joined word (cond b ([] ∷ parts cs) (with_front c (parts cs)))) not
    ∙ rw (some.is) (ap (λ w. ws ++ w ∷ some.more) (sym (append_assoc word (c ∷ []) some.first)))

-- the text is over
pub joined_end : (ws : List (List ℕ)) (word : List ℕ) → ws ++ joined word (parts []) ≡ ws ++ word ∷ []
unfolding parts
joined_end ws word = ap (λ w. ws ++ w ∷ []) (append-nil word)
