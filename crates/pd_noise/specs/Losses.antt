-- Which packets of a run are lost by lot.
use Rattle.std.specs.Prelude.{◌≡◌, ℕ, ◌==◌, ◌&&◌, ◌||◌, nat_lt, not, Bool, List, [], ◌∷◌, if◌then◌else◌, Option, Some, None}
use Rattle.std.specs.List.{filter}
use Rattle.pd_port.specs.declared.entry.Entry.{Entry}
use Rattle.pd_run.specs.Shown.{Shows}
use Rattle.pd_scenario.specs.Plan.{Plan}
use Rattle.pd_scenario.specs.Plans.{plan_of}
use Rattle.pd_scenario.specs.Scenarios.{ScenarioData}
use Rattle.pd_sweep.specs.Choices.{chosen}
use Rattle.pd_sweep.specs.Lost.{lost}
use Rattle.pd_sweep.specs.declared.choice.Choice.{Choice}
use Rattle.pd_sweep.specs.declared.choice.Loss.TheVariants as loss
use Rattle.pd_sweep.specs.declared.packets.Target.{Target}
use Rattle.pd_noise.specs.Draws.{behind_next, generator_of, says_lost}
use Rattle.pd_noise.specs.declared.noise.Noise.{Noise}
use Rattle.pd_noise.specs.declared.place.Place.{Place}

-- before the run, since ports are numbered from 1
abbrev pub first_place : Place
first_place = record { at = 0; port = 0 }

abbrev pub place_of : Target → Place
place_of t = record { at = t.at; port = t.port }

-- a packet is later, or at the time on a higher port
abbrev pub is_behind : Place → Target → Bool
is_behind place t = nat_lt place.at t.at || (t.at == place.at && nat_lt place.port t.port)

-- a number is drawn for a packet that is behind a place and arrives as it was sent
abbrev pub is_drawn : Place → Target → Bool
is_drawn place t = is_behind place t && not t.disturbed

-- the packets of a run for which one is still to be drawn, in the run's order
abbrev pub undrawn : Choice → Place → List (ℕ × Entry) → List Target
undrawn choice place moves = filter (is_drawn place) (chosen choice moves)

-- A number is drawn for each of some packets, up to the first of which it says that it is lost: that packet, if there is one, and the
-- generator behind the last number.
abbrev pub draws : ℕ → List ℕ → List Target → Option Target × List ℕ
draws share g [] = (None, g)
draws share g (t ∷ ts) = if says_lost share g then (Some t, behind_next g) else draws share (behind_next g) ts

-- how far drawing has come: the plan so far, the packet of its run that was drawn for last, and what is drawn from
pub record Stage : Type 0 where
  pub plan : Plan
  pub place : Place
  pub generator : List ℕ

-- A packet of the stage's run is lost, the first of which a number says so. The next stage is the plan in which it is, from it on.
pub record Loses (noise : Noise) (a : Stage) (t : Target) (b : Stage) : Type 0 where
  pub moves : List (ℕ × Entry)
  pub shows : Shows a.plan moves
  pub drawn : draws noise.share a.generator (undrawn noise.choice a.place moves) ≡ (Some t, b.generator)
  pub plan_is : b.plan ≡ lost a.plan loss.Lost 0 t
  pub place_is : b.place ≡ place_of t

-- No number says of a packet of the stage's run that it is lost.
pub record IsLast (noise : Noise) (a : Stage) (moves : List (ℕ × Entry)) : Type 0 where
  pub shows : Shows a.plan moves
  pub none_lost : (draws noise.share a.generator (undrawn noise.choice a.place moves)).0 ≡ None

-- From a stage on these packets are lost one after the other; then this is the plan, and these are the entries of its run.
abbrev pub LeadsTo : Noise → Stage → List Target → Plan → List (ℕ × Entry) → Type 0
LeadsTo noise a [] plan moves = (a.plan ≡ plan) × IsLast noise a moves
LeadsTo noise a (t ∷ ts) plan moves = (b : Stage) × Loses noise a t b × LeadsTo noise b ts plan moves

abbrev pub first_stage : ScenarioData → Noise → ℕ → Stage
first_stage c noise run = record { plan = plan_of c; place = first_place; generator = generator_of noise.seed run }

-- these packets are lost by lot in the run of this number of a scenario
abbrev pub IsNoisyRun : ScenarioData → Noise → ℕ → List Target → Plan → List (ℕ × Entry) → Type 0
IsNoisyRun c noise run losses plan moves = LeadsTo noise (first_stage c noise run) losses plan moves
