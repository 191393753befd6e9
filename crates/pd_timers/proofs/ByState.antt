-- The first row of a table that fits is the first of the rows that its state has.
use Rattle.std.proofs.Common.{◌≡◌, Bool, true, false, ◌&&◌, if◌then◌else◌, List, [], ◌∷◌, refl}
use Rattle.std.specs.Prelude.{filter}
use Rattle.pd_timers.specs.Table.{first_row}
use Rattle.pd_timers.specs.ByState.{first_deeds}

module _ {R D : Type 0} (deeds : R → List D) (test : R → Bool) where
  -- one row more, by whether the state has it, and by what else it asks
  step : (has asks fits : Bool) (r next : R) (rows : List R) → fits ≡ has && asks → test r ≡ asks
      → deeds next ≡ first_deeds test deeds rows
      → deeds (if fits then r else next) ≡ first_deeds test deeds (if has then r ∷ rows else rows)
  step false asks fits r next rows e k h = rw e h
  step true false fits r next rows e k h = rw (e, k) h
  step true true fits r next rows e k h = rw (e, k) refl

and-assoc : (b c d : Bool) → (b && c) && d ≡ b && (c && d)
and-assoc true c d = refl
and-assoc false c d = refl

pub deeds_by_state : {R D : Type 0} (deeds : R → List D) (has cued guarded : R → Bool) (otherwise : R) (rows : List R)
    → deeds otherwise ≡ []
    → deeds (first_row (λ r. (has r && cued r) && guarded r) otherwise rows)
    ≡ first_deeds (λ r. cued r && guarded r) deeds (filter has rows)
deeds_by_state deeds has cued guarded otherwise [] none = none
deeds_by_state deeds has cued guarded otherwise (r ∷ rows) none =
    step deeds (λ r. cued r && guarded r) (has r) (cued r && guarded r) ((has r && cued r) && guarded r) r
    (first_row (λ r. (has r && cued r) && guarded r) otherwise rows) (filter has rows)
    (and-assoc (has r) (cued r) (guarded r)) refl (deeds_by_state deeds has cued guarded otherwise rows none)
