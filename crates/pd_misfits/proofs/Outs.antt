-- The first supply that isn't within its ranges, where the code has a `Vec`.
use Rattle.std.proofs.Common.{◌≡◌, Bool, true, false, List, [], ◌∷◌, Option, None, Some, map, option_map, if◌then◌else◌, refl, sym, ap, ◌∙◌}
use Rattle.std.specs.Prelude.{find}
use Rattle.toml.specs.View.{view}
use Rattle.toml.specs.declared.value.Value.{Value}
use Rattle.pd_misfits.specs.Supplies.{is_out, pair, pair_hint, supplies_hint, supply_hint}

found : (v : Value) (vs : List Value) (b : Bool)
    → find is_out (map (λ v. view v) vs) ≡ option_map (λ v. view v) (find (λ v. is_out (view v)) vs)
    → (if b then Some (view v) else find is_out (map (λ v. view v) vs))
    ≡ option_map (λ v. view v) (if b then Some v else find (λ v. is_out (view v)) vs)
found v vs true rest = refl
found v vs false rest = rest

first_viewed : (vs : List Value) → find is_out (map (λ v. view v) vs) ≡ option_map (λ v. view v) (find (λ v. is_out (view v)) vs)
first_viewed [] = refl
first_viewed (v ∷ vs) = found v vs (is_out (view v)) (first_viewed vs)

pub hint_of_first : (vs : List Value) (v : Value) → Some v ≡ find (λ v. is_out (view v)) vs
    → supplies_hint (map (λ v. view v) vs) ≡ pair_hint (pair (view v))
hint_of_first vs v is = ap supply_hint (first_viewed vs ∙ ap (option_map (λ v. view v)) (sym is))

pub no_hint : (vs : List Value) → ◌≡◌ {A = Option Value} None (find (λ v. is_out (view v)) vs)
    → supplies_hint (map (λ v. view v) vs) ≡ []
no_hint vs is = ap supply_hint (first_viewed vs ∙ ap (option_map (λ v. view v)) (sym is))
