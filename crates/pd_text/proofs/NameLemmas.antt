-- Names with commas between them.
use Rattle.std.proofs.Common.{◌≡◌, ℕ, ◌-◌, ◌≤◌, true, List, [], ◌∷◌, ◌++◌, length, take, drop, map, get_or}
use Rattle.std.proofs.Common.{ap, sym, ◌∙◌, append_assoc, append-nil, arith}
use Rattle.std.specs.List.{flat_map, join_with_byte}
use Rattle.std.proofs.lemmas.List.{take_rest}
use Rattle.pd_text.specs.declared.piece.ListName.{ListName}
use Rattle.pd_text.specs.Pieces.{list_name_of}
use Rattle.pd_text.specs.Texts.{listed, names_joined, quoted}

-- behind the first of them each stands behind its comma
pub joined : (x : List ℕ) (xs : List (List ℕ)) → join_with_byte 44 (x ∷ xs) ≡ x ++ flat_map (λ name. 44 ∷ name) xs
joined x [] = sym (append-nil x)
joined x (y ∷ xs) = ap (λ rest. x ++ (44 ∷ rest)) (joined y xs)

-- the first name of a list, which has it, and then those behind it
pub listed_first : (names : List ListName) (none : ListName) (t0 t1 t2 : List ℕ) → 1 ≤ length names
    → (get_or names 0 none).is_listed ≡ true → t1 ≡ t0 ++ quoted (get_or names 0 none).name.now
    → t2 ≡ t1 ++ flat_map (λ name. 44 ∷ name) (listed (map list_name_of (take (length names - 1) (drop 1 names))))
    → t2 ≡ t0 ++ names_joined (map list_name_of names)
listed_first [] none t0 t1 t2 some is_in h k = absurd (omega arith)
listed_first (x ∷ xs) none t0 t1 t2 some is_in h k =
    let behind : flat_map (λ name. 44 ∷ name) (listed (map list_name_of (take (length (x ∷ xs) - 1) (drop 1 (x ∷ xs)))))
    ≡ flat_map (λ name. 44 ∷ name) (listed (map list_name_of xs)) =
    ap (λ rest. flat_map (λ name. 44 ∷ name) (listed (map list_name_of rest))) (take_rest (x ∷ xs) 1) in
    rw is_in
    (k ∙ ap (λ t. t ++ flat_map (λ name. 44 ∷ name) (listed (map list_name_of (take (length (x ∷ xs) - 1) (drop 1 (x ∷ xs)))))) h
    ∙ append_assoc t0 _ _ ∙ ap (λ rest. t0 ++ (quoted x.name.now ++ rest)) behind
    ∙ ap (λ t. t0 ++ t) (sym (joined (quoted x.name.now) (listed (map list_name_of xs)))))
