-- The keys of a table, where the code has a map.
use Rattle.std.proofs.Common.{◌≡◌, ℕ, List, [], ◌∷◌, ◌++◌, refl, sym, ap, ◌∙◌, append_assoc, map, string_bytes, String, Global}
use Rattle.std.proofs.lemmas.List.{append-nil}
use Rattle.std.specs.List.{flat_map}
use Rattle.std.specs.Map.{keys_of as map_keys}
use Rattle.toml.specs.View.{members_view}
use Rattle.toml.proofs.Views.{Entry}
use Rattle.pd_scenario_tables.specs.Tables.{keys_of}

pub keys_are : (es : List Entry) → keys_of (members_view es) ≡ map string_bytes (map_keys es)
keys_are [] = refl
keys_are (e ∷ es) = ap (λ ks. string_bytes e.0 ∷ ks) (keys_are es)

-- all keys are left
pub first_keys : (text : List ℕ) (told : List ℕ → List ℕ) (es : List Entry) (left : List (String Global)) → left ≡ map_keys es
    → text ++ flat_map told (keys_of (members_view es)) ≡ text ++ flat_map told (map string_bytes left)
first_keys text told es left is =
    ap (λ ks. text ++ flat_map told ks) (keys_are es) ∙ ap (λ ks. text ++ flat_map told (map string_bytes ks)) (sym is)

-- one more key is told
pub more_keys : (whole text text' key : List ℕ) (told : List ℕ → List ℕ) (k : String Global) (left left' : List (String Global))
    → whole ≡ text ++ flat_map told (map string_bytes left) → left ≡ k ∷ left' → key ≡ string_bytes k → text' ≡ text ++ told key
    → whole ≡ text' ++ flat_map told (map string_bytes left')
more_keys whole text text' key told k left left' so_far is value said =
    so_far ∙ ap (λ ks. text ++ flat_map told (map string_bytes ks)) is
    ∙ sym (append_assoc text (told (string_bytes k)) (flat_map told (map string_bytes left')))
    ∙ ap (λ t. (text ++ told t) ++ flat_map told (map string_bytes left')) (sym value)
    ∙ ap (λ t. t ++ flat_map told (map string_bytes left')) (sym said)

-- no key is left
pub no_keys : (whole text : List ℕ) (told : List ℕ → List ℕ) (left : List (String Global))
    → whole ≡ text ++ flat_map told (map string_bytes left) → left ≡ [] → text ≡ whole
no_keys whole text told left so_far is =
    sym (so_far ∙ ap (λ ks. text ++ flat_map told (map string_bytes ks)) is ∙ append-nil text)
