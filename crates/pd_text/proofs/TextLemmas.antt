-- Tellings that are written in parts.
use Rattle.std.proofs.Common.{◌≡◌, ℕ, List, [], ◌∷◌, ◌++◌, refl, ap, sym, ◌∙◌, append_assoc}
use Rattle.pd_text.specs.declared.piece.Form.{Form}
use Rattle.pd_text.specs.Pieces.{PieceData}
use Rattle.pd_text.specs.Texts.{text_of, text_of_all}

pub text_of_all-append : (form : Form) (xs ys : List PieceData) → text_of_all form (xs ++ ys) ≡ text_of_all form xs ++ text_of_all form ys
unfolding text_of_all
text_of_all-append form [] ys = refl
text_of_all-append form (x ∷ xs) ys =
    ap (λ t. text_of form x ++ t) (text_of_all-append form xs ys) ∙ sym (append_assoc (text_of form x) _ _)

-- the pieces of one call, and then those of the next
pub written_in_turn : (form : Form) (t0 t1 t2 : List ℕ) (xs ys : List PieceData) → t1 ≡ t0 ++ text_of_all form xs
    → t2 ≡ t1 ++ text_of_all form ys → t2 ≡ t0 ++ text_of_all form (xs ++ ys)
written_in_turn form t0 t1 t2 xs ys h k =
    k ∙ ap (λ t. t ++ text_of_all form ys) h ∙ append_assoc t0 _ _ ∙ ap (λ t. t0 ++ t) (sym (text_of_all-append form xs ys))
