-- What a job leaves of where its text goes.
use Rattle.std.specs.Prelude.{◌≡◌}
use Rattle.pd_scene.specs.declared.outlet.Outlet.{Outlet}

-- it still goes there, and the same meter counts
pub record SameEnds {W M : Type 0} (old new : Outlet W M) : Type 0 where
  pub writer : new.writer.ghost_name ≡ old.writer.ghost_name
  pub meter : new.meter.ghost_name ≡ old.meter.ghost_name
