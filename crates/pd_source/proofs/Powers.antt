-- The powers of an offer.
use Rattle.std.proofs.Common.{◌≡◌, ℕ, Bool, ◌≤◌, ◌*◌, ◌⊎◌, inl, inr, List, [], ◌∷◌, length, fold, max, refl, arith}
use Rattle.pd_objects.specs.Supply.{SupplyData}
use Rattle.pd_objects.specs.Answers.{AreWithin}
use Rattle.pd_source.specs.Acts.{capabilities}
use Rattle.pd_source.specs.Step.{powers}

-- with no supply or no current left there is no power and no object
pub powers-ended : (supplies : List SupplyData) (currents : List ℕ) → (length supplies ≡ 0) ⊎ (length currents ≡ 0) →
    powers supplies currents ≡ []
powers-ended [] currents h = refl
powers-ended (s ∷ ss) [] h = refl
powers-ended (s ∷ ss) (m ∷ ms) (inl e) = absurd (omega arith)
powers-ended (s ∷ ss) (m ∷ ms) (inr e) = absurd (omega arith)

pub capabilities-ended : (u : Bool) (supplies : List SupplyData) (currents : List ℕ) → (length supplies ≡ 0) ⊎ (length currents ≡ 0) →
    capabilities u supplies currents ≡ []
capabilities-ended u [] currents h = refl
capabilities-ended u (s ∷ ss) [] h = refl
capabilities-ended u (s ∷ ss) (m ∷ ms) (inl e) = absurd (omega arith)
capabilities-ended u (s ∷ ss) (m ∷ ms) (inr e) = absurd (omega arith)

pub least-fold_max : (n : ℕ) (xs : List ℕ) → n ≤ fold max n xs
least-fold_max n [] = omega arith
least-fold_max n (x ∷ xs) = let h = least-fold_max (max n x) xs in omega arith

-- powers within a bound, and a number within it
pub fold_max-powers : (f n : ℕ) (supplies : List SupplyData) (currents : List ℕ) → AreWithin f supplies currents → n ≤ f →
    fold max n (powers supplies currents) ≤ f
fold_max-powers f n [] [] w h = h
fold_max-powers f n (s ∷ ss) (m ∷ ms) w h = let p = w.0 in fold_max-powers f (max n (s.mv * m)) ss ms w.1 (omega arith)
fold_max-powers f n [] (m ∷ ms) w h = absurd w
fold_max-powers f n (s ∷ ss) [] w h = absurd w

-- the greatest of more, and of another start
pub fold_max-less : (n m f : ℕ) (xs : List ℕ) → n ≤ m → fold max m xs ≤ f → fold max n xs ≤ f
fold_max-less n m f [] l h = omega arith
fold_max-less n m f (x ∷ xs) l h = fold_max-less (max n x) (max m x) f xs (omega arith) h

pub fold_max-more : (k m n f : ℕ) (xs : List ℕ) → k ≤ max m n → n ≤ f → fold max m xs ≤ f → fold max k xs ≤ f
fold_max-more k m n f [] l e h = omega arith
fold_max-more k m n f (x ∷ xs) l e h = fold_max-more (max k x) (max m x) n f xs (omega arith) e h
