-- What is put into a page has no `<`.
use Rattle.std.proofs.Common.{◌≡◌, ℕ, Bool, true, false, List, [], ◌∷◌, ◌++◌, refl}
use Rattle.std.specs.Prelude.{◌==◌, not, codes, if◌then◌else◌}
use Rattle.std.specs.List.{list_all}
use Rattle.pd_text.specs.Pages.{NothingIsClosed, unclosed}

abbrev are_others : List ℕ → Bool
are_others text = list_all (λ byte. not (byte == 60)) text

one_more : (byte : ℕ) (rest : List ℕ) (b : Bool) → (byte == 60) ≡ b → are_others rest ≡ true
    → are_others ((if b then codes "\\u003c" else byte ∷ []) ++ rest) ≡ true
one_more byte rest true is before = before
one_more byte rest false is before = rw is before

pub nothing_is_closed : NothingIsClosed
unfolding unclosed
nothing_is_closed [] = refl
nothing_is_closed (byte ∷ bytes) = one_more byte (unclosed bytes) (byte == 60) refl (nothing_is_closed bytes)
