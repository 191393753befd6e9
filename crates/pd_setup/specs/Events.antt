-- What happens to a port from outside: this product's own ranges.
use Rattle.std.specs.Prelude.{ℕ, ◌≤◌}
use Rattle.pd_identity.specs.declared.Cable.{Cable}
use Rattle.pd_packet.specs.Damage.{DamageData}
use Rattle.pd_setup.specs.Sinks.{SinkData}
use Rattle.pd_setup.specs.declared.event.EventKind.{EventKind}
use Rattle.pd_setup.specs.declared.event.EventKind.TheVariants.{Attach, Detach, Demand, Lose, Damage, GetSource, GetSink}
use Rattle.pd_setup.specs.declared.event.Happening.{Happening}
use Rattle.pd_setup.specs.declared.event.Happening.TheVariants.{Port, Budget}

-- What becomes of a kind: a function for each kind that carries something, and one for all that carry nothing, of the kind
-- in the terms that are wanted.
abbrev pub by_kind : {C S D M C' S' D' M' R : Type 0} → (C → S → R) → (D → R) → (M → R) → (EventKind C' S' D' M' → R) → EventKind C S D M
    → R
by_kind attach demand damage other (Attach cable sink) = attach cable sink
by_kind attach demand damage other (Demand power) = demand power
by_kind attach demand damage other (Damage harm) = damage harm
by_kind attach demand damage other Detach = other Detach
by_kind attach demand damage other Lose = other Lose
by_kind attach demand damage other GetSource = other GetSource
by_kind attach demand damage other GetSink = other GetSink

-- the kind alone, which a word stands for
abbrev pub KindWord : Type 0
KindWord = EventKind (Unit {0}) (Unit {0}) (Unit {0}) (Unit {0})

-- a kind at a port, with the cable and the sink themselves
abbrev pub PortEventKind : Type 0
PortEventKind = EventKind Cable SinkData ℕ DamageData

-- when, in microseconds, and what
pub record EventData : Type 0 where
  pub at : ℕ
  pub happening : Happening

-- an event of the port has an id up to 1,000,000: that of a scenario's event, which is from 1 on, or 0 where it stands in no scenario
abbrev pub HasId : Happening → Type 0
HasId (Port id kind) = id ≤ 1000000
HasId Budget = Unit {0}

-- within two minutes
pub record IsEvent (e : EventData) : Type 0 where
  pub id : HasId e.happening
  pub in_time : e.at ≤ 120000000
