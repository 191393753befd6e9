-- Supplies of a list, where the code has a `Vec`, and one at a time.
use Rattle.std.proofs.Common.{◌≡◌, ℕ, ℤ, ◌+◌, ◌<◌, ◌≤◌, true, false, List, [], ◌∷◌, Option, None, length, map, drop, get_or}
use Rattle.std.proofs.Common.{refl, sym, ap, ◌∙◌}
use Rattle.std.proofs.lemmas.List.{at_drop_more, at_drop_all}
use Rattle.toml.specs.Data.{Data, array}
use Rattle.toml.specs.View.{view, items_view}
use Rattle.toml.specs.declared.value.Value.{Value}
use Rattle.pd_scenario_tables.specs.declared.fault.ScenarioFault.{ScenarioFault}
use Rattle.pd_misfits.specs.Supplies.{fits, misfit_text, pair, place_text, voltage}

pub pair-items : (vs : List Value) → (length vs ≡ 2 → ⊥) → pair (array (items_view vs)) ≡ None
pair-items [] h = refl
pair-items (a ∷ []) h = refl
pair-items (a ∷ b ∷ []) h = absurd (h refl)
pair-items (a ∷ b ∷ c ∷ vs) h = refl

passed : (refusal : ScenarioFault) (number before : ℕ) (d : Data) (ds : List Data) → fits refusal number before (pair d) ≡ true
    → misfit_text refusal number before (d ∷ ds) ≡ misfit_text refusal (number + 1) (voltage (pair d)) ds
unfolding misfit_text
passed refusal number before d ds e = rw e refl

told : (refusal : ScenarioFault) (number before : ℕ) (d : Data) (ds : List Data) → fits refusal number before (pair d) ≡ false
    → misfit_text refusal number before (d ∷ ds) ≡ place_text number d
unfolding misfit_text
told refusal number before d ds e = rw e refl

none : (refusal : ScenarioFault) (number before : ℕ) → misfit_text refusal number before [] ≡ []
unfolding misfit_text
none refusal number before = refl

-- what is told of those that are left
abbrev pub left_text : ScenarioFault → ℕ → ℕ → List Value → List ℕ
left_text refusal number before vs = misfit_text refusal number before (map (λ v. view v) vs)

next : (refusal : ScenarioFault) (number before : ℕ) (vs : List Value) (i : ℕ) (v : Value) → i < length vs → v ≡ get_or vs i v
    → left_text refusal number before (drop i vs) ≡ left_text refusal number before (v ∷ drop (i + 1) vs)
next refusal number before vs i v within is =
    at_drop_more (left_text refusal number before) vs i v within
    ∙ ap (λ w. left_text refusal number before (w ∷ drop (i + 1) vs)) (sym is)

-- one more that fits
pub more_fit : (whole : List ℕ) (refusal : ScenarioFault) (number before before' : ℕ) (vs : List Value) (i : ℕ) (v : Value)
    (p : Option (ℤ × ℤ)) → i < length vs → v ≡ get_or vs i v → p ≡ pair (view v) → fits refusal number before p ≡ true
    → before' ≡ voltage p → whole ≡ left_text refusal number before (drop i vs)
    → whole ≡ left_text refusal (number + 1) before' (drop (i + 1) vs)
more_fit whole refusal number before before' vs i v p within is ps fit bs so_far =
    so_far ∙ next refusal number before vs i v within is
    ∙ passed refusal number before (view v) (map (λ w. view w) (drop (i + 1) vs)) (ap (fits refusal number before) (sym ps) ∙ fit)
    ∙ ap (λ b. left_text refusal (number + 1) b (drop (i + 1) vs)) (ap voltage (sym ps) ∙ sym bs)

-- the first that doesn't
pub first_told : (whole : List ℕ) (refusal : ScenarioFault) (number before : ℕ) (vs : List Value) (i : ℕ) (v : Value)
    (p : Option (ℤ × ℤ)) → i < length vs → v ≡ get_or vs i v → p ≡ pair (view v) → fits refusal number before p ≡ false
    → whole ≡ left_text refusal number before (drop i vs) → whole ≡ place_text number (view v)
first_told whole refusal number before vs i v p within is ps wrong so_far =
    so_far ∙ next refusal number before vs i v within is
    ∙ told refusal number before (view v) (map (λ w. view w) (drop (i + 1) vs)) (ap (fits refusal number before) (sym ps) ∙ wrong)

-- all fit
pub all_fit : (whole : List ℕ) (refusal : ScenarioFault) (number before : ℕ) (vs : List Value) (i : ℕ) → length vs ≤ i
    → whole ≡ left_text refusal number before (drop i vs) → whole ≡ []
all_fit whole refusal number before vs i over so_far =
    so_far ∙ at_drop_all (left_text refusal number before) vs i over ∙ none refusal number before
