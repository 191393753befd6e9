-- What bounds the current that a supply is offered at: what is configured, what the cable carries, and what is free of the shared
-- budget at the supply's voltage. Each bound is told in the steps of 10 mA in which an object states a current.
use Rattle.std.specs.Prelude.{◌≡◌, ℕ, ◌/◌, ◌*◌, ◌≤◌, ◌==◌, Bool, true}
use Rattle.pd_objects.specs.Supply.{SupplyData}
use Rattle.pd_ledger.specs.Offer.{offered}
use Rattle.pd_why.specs.declared.bound.Bounds.{Bounds}
use Rattle.pd_why.specs.declared.bound.Bound.{Bound}
use Rattle.pd_why.specs.declared.bound.Bound.TheVariants.{Configured, Cable, Free}

-- a current rounded down to 10 mA
abbrev pub in_steps : ℕ → ℕ
in_steps ma = ma / 10 * 10

-- the bounds of a supply that is offered at a current, by so much free power and the cable's limit
abbrev pub bounds_of : ℕ → ℕ → SupplyData → ℕ → Bounds
bounds_of free limit_ma s ma = record {
  mv = s.mv;
  configured_ma = in_steps s.ma;
  cable_ma = in_steps limit_ma;
  free_ma = in_steps (free / s.mv);
  offered_ma = ma;
}

-- the current that a bound allows
abbrev pub allowed : Bounds → Bound → ℕ
allowed b Configured = b.configured_ma
allowed b Cable = b.cable_ma
allowed b Free = b.free_ma

-- a bound sets the offered current where it allows no more
abbrev pub sets : Bounds → Bound → Bool
sets b which = allowed b which == b.offered_ma

-- The bounds that are named are the least ones, all of them, and there is one.
pub record NamesTheLeast (b : Bounds) : Type 0 where
  pub one : (which : Bound) × (sets b which ≡ true)
  pub least : (which other : Bound) → sets b which ≡ true → allowed b which ≤ allowed b other
  pub all : (which : Bound) → ((other : Bound) → allowed b which ≤ allowed b other) → sets b which ≡ true

-- So it is of what the shared budget answers.
abbrev pub LeastBoundsAreNamed : Type 0
LeastBoundsAreNamed =
    (free limit_ma : ℕ) (s : SupplyData) → NamesTheLeast (bounds_of free limit_ma s (offered free limit_ma s))
