-- What holds of a packet that is told to be hit.
use Rattle.std.specs.Prelude.{◌≡◌, ℕ, ◌+◌, false, List, ◌∷◌, ◌++◌, map, Contains, Some}
use Rattle.std.specs.List.{AllByRecursion}
use Rattle.pd_packet.specs.Contents.{Contents}
use Rattle.pd_packet.specs.declared.fate.Fate.{Fate}
use Rattle.pd_header.specs.declared.side.Side.{Side}
use Rattle.pd_line.specs.declared.notes.Start.TheVariants as start
use Rattle.pd_run.specs.Run.{Move, Run, shown}
use Rattle.pd_run.specs.Shown.{SafeRun}
use Rattle.pd_scenario.specs.Plan.{Plan, count, script_of}
use Rattle.pd_scenario.specs.Plans.{plan_of}
use Rattle.pd_scenario.specs.Scenarios.{ScenarioData, has_id}
use Rattle.pd_watch.specs.declared.watch.Disturber.{Disturber}
use Rattle.pd_watch.specs.Watch.{after_steps, all_at_rest, disturber_of, watch_at}
use Rattle.pd_sweep.specs.Lost.{put_in}
use Rattle.pd_sweep.specs.Measures.{measures_of}
use Rattle.pd_sweep.specs.Summaries.{AreFindings}
use Rattle.pd_sweep.specs.Sets.{members}
use Rattle.pd_sweep.specs.Trials.{IsTrial, plan_with}
use Rattle.pd_sweep.specs.declared.choice.Campaign.{Campaign}
use Rattle.pd_sweep.specs.declared.choice.Loss.{Loss}
use Rattle.pd_sweep.specs.declared.effect.Effect.{Effect}
use Rattle.pd_sweep.specs.declared.packets.Target.{Target}
use Rattle.pd_sweep.specs.declared.sets.Packets.{Packets}
use Rattle.pd_sweep.specs.declared.trial.Outcome.TheVariants.{Ran}
use Rattle.pd_sweep.specs.declared.trial.Trial.{Trial}

-- In these moves of a plan in which packets of a scenario's run are lost one of them starts, from its side, with its ordered set and its
-- header, at its time on its port. What becomes of it is what the disturbance of an event makes of it that waits there first (pd_watch);
-- and this event is none of the scenario's, but one of those that the packet's port has more.
pub record IsHit (c : ScenarioData) (plan : Plan) (loss : Loss) (t : Target) (moves : List Move) : Type 0 where
  pub past : List Move
  pub move : Move
  pub later : List Move
  pub moves_are : moves ≡ past ++ move ∷ later
  pub on_port : move.port + 1 ≡ t.port
  pub on_time : move.entry.at ≡ t.at
  pub side : Side
  pub packet : Contents
  pub fate : Fate
  pub starts : move.entry.start ≡ Some (start.Packet side packet fate)
  pub side_is : side ≡ t.side
  pub channel_is : packet.channel ≡ t.channel
  pub header_is : packet.header ≡ t.header
  pub taker : Disturber
  pub takes : disturber_of (watch_at (after_steps (all_at_rest (count plan)) (map shown past)) (move.port + 1)) move.entry ≡ Some taker
  pub fate_is : taker.fate ≡ fate
  pub is_new : has_id c.events taker.id ≡ false
  pub is_put_in : taker.id ≡ 0
  pub there : Contains (script_of plan move.port) (put_in loss t.at)

-- it is so in the safe run of that plan, of which these findings are told; and the measures are those of that run beside the safe run of
-- the scenario
pub record RanHit (c : ScenarioData) (campaign : Campaign) (ps : Packets) (effect : Effect) : Type 0 where
  pub moves : List Move
  pub safe : SafeRun (plan_with c campaign ps) moves
  pub found : AreFindings (plan_with c campaign ps) (map shown moves) effect.findings
  pub base : List Move
  pub base_safe : SafeRun (plan_of c) base
  pub measured : effect.measures ≡ measures_of (plan_of c).end (map shown base) (map shown moves)
  pub hits : AllByRecursion (λ t. IsHit c (plan_with c campaign ps) campaign.loss t moves) (members ps)

-- So are the packets hit of whose loss the line tells a run.
abbrev pub HitsAreTrue : Type 0
HitsAreTrue =
    (n : ℕ) (c : ScenarioData) (campaign : Campaign) (trial : Trial) (effect : Effect) → IsTrial n c campaign trial
    → trial.outcome ≡ Ran effect → RanHit c campaign trial.packets effect

-- The measures of a line are those of any run of the plan in which its packets are lost, beside any run of the scenario: there is one of
-- each.
abbrev pub MeasuresAreTrue : Type 0
MeasuresAreTrue =
    (n : ℕ) (c : ScenarioData) (campaign : Campaign) (trial : Trial) (effect : Effect) (base moves : List Move)
    → IsTrial n c campaign trial → trial.outcome ≡ Ran effect
    → Run (plan_of c) base → Run (plan_with c campaign trial.packets) moves
    → effect.measures ≡ measures_of (plan_of c).end (map shown base) (map shown moves)
