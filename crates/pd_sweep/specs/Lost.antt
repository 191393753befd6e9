-- The plan in which a packet is lost: that of the scenario, with an event more in the script of the packet's port.
use Rattle.std.specs.Prelude.{ℕ, ◌+◌, ◌-◌, ◌≤◌, ◌==◌, ◌&&◌, ◌||◌, nat_lt, Bool, List, [], ◌∷◌, ◌++◌, replicate, if◌then◌else◌}
use Rattle.pd_setup.specs.Events.{EventData, PortEventKind}
use Rattle.pd_setup.specs.declared.event.EventKind.TheVariants.{Lose, Damage}
use Rattle.pd_setup.specs.declared.event.Happening.TheVariants.{Port}
use Rattle.pd_scenario.specs.Plan.{Plan, is_change, script_of, with_script}
use Rattle.pd_sweep.specs.declared.choice.Loss.{Loss}
use Rattle.pd_sweep.specs.declared.choice.Loss.TheVariants as loss
use Rattle.pd_sweep.specs.declared.packets.Target.{Target}

-- what happens to the packet: it is lost, or its first code after the ordered set is changed in its lowest bit
abbrev pub harm_of : Loss → PortEventKind
harm_of loss.Lost = Lose
harm_of loss.Damaged = Damage (record { place = 0; mask = 1 })

-- the event that does so; it stands in no scenario
abbrev pub put_in : Loss → ℕ → EventData
put_in loss at = record { at = at; happening = Port 0 (harm_of loss) }

-- an event comes before all others of its port at a time: an earlier one, or the change of the budget then
abbrev pub is_ahead : ℕ → EventData → Bool
is_ahead at e = nat_lt e.at at || (e.at == at && is_change e.happening)

-- a script with some events more behind those that are ahead
unfoldable pub with_events : List EventData → ℕ → List EventData → List EventData
with_events more at [] = more
with_events more at (e ∷ events) = if is_ahead at e then e ∷ with_events more at events else more ++ (e ∷ events)

-- The plan in which a packet is lost, and so many of those that start behind it on its port: that many events and one more, at the
-- packet's time and before the port's other events then. They wait in a row at the port, and each packet that starts takes one.
unfoldable pub lost : Plan → Loss → ℕ → Target → Plan
lost plan loss behind t =
    with_script plan (t.port - 1) (with_events (replicate (behind + 1) (put_in loss t.at)) t.at (script_of plan (t.port - 1)))

-- a packet of a run of n ports: it starts on one of them, within two minutes
abbrev pub IsOfRun : ℕ → Target → Type 0
IsOfRun n t = (1 ≤ t.port) × ((t.port ≤ n) × (t.at ≤ 120000000))
