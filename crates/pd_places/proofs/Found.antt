-- Names that are looked for among borrowed texts.
use Rattle.std.proofs.Common.{◌≡◌, ℕ, ◌+◌, List, [], ◌∷◌, refl, ap, Bor, Option, Some}
use Rattle.std.specs.Prelude.{bytes_eq, ◌||◌, Bool, if◌then◌else◌}
use Rattle.std.specs.List.{list_any, position_from}
use Rattle.pd_scenario_text.specs.Names.{texts}

pub any_text : (name : List ℕ) (names : List (Bor (List ℕ)))
    → list_any (λ (other : Bor (List ℕ)). bytes_eq other.now name) names ≡ list_any (λ other. bytes_eq other name) (texts names)
any_text name [] = refl
any_text name (n ∷ ns) = ap (λ b. bytes_eq n.now name || b) (any_text name ns)

pub position_text : (name : List ℕ) (i : ℕ) (names : List (Bor (List ℕ)))
    → position_from (λ (other : Bor (List ℕ)). bytes_eq other.now name) i names
    ≡ position_from (λ other. bytes_eq other name) i (texts names)
position_text name i [] = refl
position_text name i (n ∷ ns) = ap (λ found. if bytes_eq n.now name then Some i else found) (position_text name (i + 1) ns)
