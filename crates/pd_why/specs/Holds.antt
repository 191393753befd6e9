-- What each port holds of the shared budget, what makes it hold so much, and what is free to a port beside the others.
use Rattle.std.specs.Prelude.{ℕ, suc, zero, ◌+◌, ◌-◌, ◌==◌, if◌then◌else◌, List, [], ◌∷◌, ◌++◌, Option, Some, None}
use Rattle.pd_objects.specs.declared.contract.Contract.{Contract}
use Rattle.pd_source.specs.declared.kinds.State.{State}
use Rattle.pd_source.specs.Request.{contract_power}
use Rattle.pd_source.specs.Sound.{is_transition}
use Rattle.pd_setup.specs.Settings.{SettingsData, floor_of}
use Rattle.pd_port.specs.Port.{PortData, PortRecord, hold}
use Rattle.pd_why.specs.declared.holder.Maker.{Maker}
use Rattle.pd_why.specs.declared.holder.Maker.TheVariants as maker
use Rattle.pd_why.specs.declared.holder.Holder.{Holder}

-- A hold above floor and contract is that of a negotiation: in Transition_Supply of the request that is accepted, and else of the
-- offer that is being made.
abbrev pub negotiated : State → Maker
negotiated state = if is_transition state then maker.Request else maker.Offer

abbrev pub by_contract : ℕ → State → Option Contract → Maker
by_contract power state None = negotiated state
by_contract power state (Some c) = if contract_power c == power then maker.Contract c else negotiated state

-- What makes a port hold so much: its floor, else its contract, else what is negotiated. A hold is the greatest of these.
abbrev pub maker_of : SettingsData → PortRecord → Maker
maker_of s r =
    if hold s r == floor_of s then maker.Floor else by_contract (hold s r) r.source.state r.source.contract

-- what a port holds, and why; ports are numbered from 1 here
abbrev pub holder_of : ℕ → PortData → Holder
holder_of port d = record { port = port; hold = hold d.settings d.port_record; maker = maker_of d.settings d.port_record }

-- a port beside this one
abbrev pub other : (ℕ → PortData) → ℕ → ℕ → List Holder
other at p q = if q == p then [] else holder_of (q + 1) (at q) ∷ []

-- the first n ports but this one, in their order
abbrev pub others : (ℕ → PortData) → ℕ → ℕ → List Holder
others at p zero = []
others at p (suc n) = others at p n ++ other at p n

-- what a port beside this one holds
abbrev pub hold_beside : (ℕ → PortData) → ℕ → ℕ → ℕ
hold_beside at p q = if q == p then 0 else hold (at q).settings (at q).port_record

-- a budget less what the first n ports but this one hold
abbrev pub left_of : ℕ → (ℕ → PortData) → ℕ → ℕ → ℕ
left_of budget at p zero = budget
left_of budget at p (suc n) = left_of budget at p n - hold_beside at p n
