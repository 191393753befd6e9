-- What is nearest to a range of times, entry by entry: what is known after one more.
use Rattle.std.specs.Prelude.{ℕ, nat_lt, if◌then◌else◌, Option, Some, None}
use Rattle.pd_port.specs.declared.entry.Entry.{Entry}
use Rattle.pd_expect.specs.Details.{has_sign}
use Rattle.pd_expect.specs.declared.near.Near.{Near}
use Rattle.pd_expect.specs.declared.near.Sign.{Sign}

-- before the run
abbrev pub nothing_near : Near
nothing_near = record { before = None; after = None }

-- the first time there is
abbrev pub or_first : Option ℕ → ℕ → Option ℕ
or_first None at = Some at
or_first (Some first) at = Some first

-- after one more time
abbrev pub beside : ℕ → ℕ → ℕ → Near → Near
beside from to at near = record {
  before = if nat_lt at from then Some at else near.before;
  after = if nat_lt to at then or_first near.after at else near.after;
}

-- after one more entry
abbrev pub near_after : Sign → ℕ → ℕ → Near → ℕ × Entry → Near
near_after what from to near move = if has_sign what move then beside from to move.1.at near else near
