-- What a port is set to: this product's own ranges.
use Rattle.std.specs.Prelude.{◌≡◌, ℕ, ◌≤◌, ◌<◌, ◌*◌, Bool, List, [], ◌∷◌, length, Some, slice_get, option_map}
use Rattle.pd_objects.specs.Supply.{SupplyData}

-- the floor in mW, the supplies, how often the cable is asked who it is, and whether the power is unconstrained
pub record SettingsData : Type 0 where
  pub floor_mw : ℕ
  pub supplies : List SupplyData
  pub identity_tries : ℕ
  pub unconstrained : Bool

-- the voltages rise
abbrev pub AreRising : List SupplyData → Type 0
AreRising [] = Unit {0}
AreRising (s ∷ []) = Unit {0}
AreRising (s ∷ (t ∷ rest)) = (s.mv < t.mv) × AreRising (t ∷ rest)

-- what the settings of each port keep
pub record IsSettings (s : SettingsData) : Type 0 where
  pub least_floor : 500 ≤ s.floor_mw
  pub most_floor : s.floor_mw ≤ 100000
  pub some_supply : 1 ≤ length s.supplies
  pub few_supplies : length s.supplies ≤ 7
  pub first_supply : option_map (λ (supply : SupplyData). supply.mv) (slice_get s.supplies 0) ≡ Some 5000
  pub rising : AreRising s.supplies
  pub most_tries : s.identity_tries ≤ 20

-- the floor in microwatts
abbrev pub floor_of : SettingsData → ℕ
floor_of s = s.floor_mw * 1000
