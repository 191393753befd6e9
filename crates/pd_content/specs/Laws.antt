-- The fields that are told are those by which the bench's own ports send and read objects.
use Rattle.std.specs.Prelude.{◌≡◌, ℕ, List, [], ◌∷◌, map, take}
use Rattle.pd_objects.specs.FixedSupply.{fixed_supply_of}
use Rattle.pd_objects.specs.SinkSupply.{sink_supply_of}
use Rattle.pd_objects.specs.RequestObject.{request_of}
use Rattle.pd_content.specs.declared.row.Row.{Row}
use Rattle.pd_content.specs.declared.kind.ObjectKind.TheVariants as object
use Rattle.pd_content.specs.Rows.{rows_of}
use Rattle.pd_content.specs.Texts.{value_in}

-- the first n fields of an object
abbrev pub first_fields : ℕ → List Row → ℕ → List ℕ
first_fields n rows w = map (λ row. value_in row w) (take n rows)

-- voltage, current and peak current of a source's fixed supply; voltage and current of a sink's; position and both currents
-- of a request
pub record AreTheObjects (w : ℕ) : Type 0 where
  pub supply : first_fields 3 (rows_of object.FixedSupply) w
      ≡ (fixed_supply_of w).voltage ∷ (fixed_supply_of w).current ∷ (fixed_supply_of w).peak_current ∷ []
  pub sink_supply : first_fields 2 (rows_of object.SinkFixedSupply) w ≡ (sink_supply_of w).voltage ∷ (sink_supply_of w).current ∷ []
  pub request : first_fields 3 (rows_of object.Request) w
      ≡ (request_of w).position ∷ (request_of w).operating_current ∷ (request_of w).maximum_current ∷ []

abbrev pub FieldsAreTheObjects : Type 0
FieldsAreTheObjects = (w : ℕ) → AreTheObjects w
