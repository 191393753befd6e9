-- What is put on a shelf.
use Rattle.std.specs.Prelude.{◌≡◌, ◌≢◌, ℕ, Bool, false, List, [], ◌∷◌, ◌++◌, All, Any, Option, Some, None, Result, Ok, Err}
use Rattle.pd_device.specs.Device.{one_more}
use Rattle.pd_desk.specs.declared.shelf.ShelfFault.{ShelfFault}
use Rattle.pd_desk.specs.declared.shelf.ShelfFault.TheVariants.{Stands, Failed}

-- what is known of a shelf: the names and texts that were put there, where it tells them, and how often that failed
pub record Shelved : Type 0 where
  pub kept : Option (List (List ℕ × List ℕ))
  pub failures : ℕ

-- of a shelf that doesn't tell what was put there
abbrev pub untold : ℕ → Shelved
untold failures = record { kept = None; failures = failures }

-- a text is there under a name, behind what was there
abbrev pub Puts : Option (List (List ℕ × List ℕ)) → Option (List (List ℕ × List ℕ)) → List ℕ → List ℕ → Type 0
Puts None kept' name text = Unit {0}
Puts (Some kept) None name text = ⊥
Puts (Some kept) (Some kept') name text = kept' ≡ kept ++ (name, text) ∷ []

-- the text was put there
abbrev pub IsPut : Shelved → Shelved → List ℕ → List ℕ → Type 0
IsPut shelf shelf' name text = Puts shelf.kept shelf'.kept name text × (shelf'.failures ≡ shelf.failures)

-- it couldn't be put there, which is counted
abbrev pub IsNotPut : Shelved → Shelved → Type 0
IsNotPut shelf shelf' = (shelf'.kept ≡ shelf.kept) × (shelf'.failures ≡ one_more shelf.failures)

-- nothing stands there under this name
abbrev pub IsFree : Option (List (List ℕ × List ℕ)) → List ℕ → Type 0
IsFree None name = Unit {0}
IsFree (Some kept) name = All (λ (put : List ℕ × List ℕ). put.0 ≢ name) kept

abbrev pub IsTaken : Option (List (List ℕ × List ℕ)) → List ℕ → Type 0
IsTaken None name = Unit {0}
IsTaken (Some kept) name = Any (λ (put : List ℕ × List ℕ). put.0 ≡ name) kept

-- the text that was put there last under this name
pub record LastPut (kept : List (List ℕ × List ℕ)) (name text : List ℕ) : Type 0 where
  pub front : List (List ℕ × List ℕ)
  pub behind : List (List ℕ × List ℕ)
  pub are : kept ≡ front ++ (name, text) ∷ behind
  pub is_last : All (λ (put : List ℕ × List ℕ). put.0 ≢ name) behind

-- the text stands there under this name
abbrev pub Holds : Option (List (List ℕ × List ℕ)) → List ℕ → List ℕ → Type 0
Holds None name text = Unit {0}
Holds (Some kept) name text = LastPut kept name text

-- how putting a text there ended: what stands there is replaced only where it is to be
abbrev pub Ended : Shelved → Shelved → List ℕ → List ℕ → Bool → Result (Unit {0}) ShelfFault → Type 0
Ended shelf shelf' name text is_over (Ok done) = IsPut shelf shelf' name text × (is_over ≡ false → IsFree shelf.kept name)
Ended shelf shelf' name text is_over (Err Stands) = (is_over ≡ false) × IsTaken shelf.kept name × (shelf' ≡ shelf)
Ended shelf shelf' name text is_over (Err Failed) = IsNotPut shelf shelf'
