-- The parts of a sweep together are the sweep.
use Rattle.std.specs.Prelude.{◌≡◌, ℕ, ◌+◌, ◌<◌, ◌≤◌, List, ◌++◌, length, map, None, Some, Option}
use Rattle.std.specs.List.{flat_map, range_with_len}
use Rattle.pd_port.specs.declared.entry.Entry.{Entry}
use Rattle.pd_run.specs.Shown.{Shows}
use Rattle.pd_scenario.specs.Plans.{plan_of}
use Rattle.pd_scenario.specs.Scenarios.{ScenarioData}
use Rattle.pd_sweep.specs.Choices.{chosen}
use Rattle.pd_sweep.specs.Counts.{HasPackets}
use Rattle.pd_sweep.specs.Forms.{head}
use Rattle.pd_sweep.specs.Parts.{part_of, share_of}
use Rattle.pd_sweep.specs.Sweeps.{AreTrials, lines_of, packet_lines}
use Rattle.pd_sweep.specs.declared.choice.Campaign.{Campaign}
use Rattle.pd_sweep.specs.declared.findings.Findings.{Findings}
use Rattle.pd_sweep.specs.declared.form.Look.{Look}
use Rattle.pd_sweep.specs.declared.part.Part.{Part}
use Rattle.pd_sweep.specs.declared.sets.Packets.TheVariants.{One}
use Rattle.pd_sweep.specs.declared.trial.Trial.{Trial}

-- so many packets at most, from one on
abbrev pub from_on : ℕ → ℕ → Part
from_on first count = record { first = first; count = count }

-- The trials of a part and those of the part behind it are those of both as one part, beside the same findings without a loss.
abbrev pub PartsJoin : Type 0
PartsJoin =
    (n : ℕ) (c : ScenarioData) (campaign : Campaign) (first count more : ℕ) (without without' : Findings) (trials trials' : List Trial)
    → AreTrials n c campaign (Some (from_on first count)) without trials
    → AreTrials n c campaign (Some (from_on (first + count) more)) without' trials'
    → (without' ≡ without) × AreTrials n c campaign (Some (from_on first (count + more))) without (trials ++ trials')

-- A part from the first packet on that has fewer trials than it may have is the whole sweep.
abbrev pub ShortPartIsWhole : Type 0
ShortPartIsWhole =
    (n : ℕ) (c : ScenarioData) (campaign : Campaign) (count : ℕ) (without : Findings) (trials : List Trial)
    → AreTrials n c campaign (Some (from_on 0 count)) without trials → length trials < count
    → AreTrials n c campaign None without trials

-- the places of a part
abbrev pub places_of : Part → List ℕ
places_of part = range_with_len part.first part.count

-- The places of all shares of some packets, from the first share to the last, are the places of these packets, each once and in order.
abbrev pub SharesCoverOnce : Type 0
SharesCoverOnce =
    (shares packets : ℕ) → 0 < shares
    → flat_map (λ number. places_of (share_of number shares packets)) (range_with_len 1 shares) ≡ range_with_len 0 packets

-- The trials of all shares of a sweep, each made with its own run without a loss, are from the first share to the last the trials of the
-- whole sweep; and so are their lines.
pub record AreWhole (n : ℕ) (c : ScenarioData) (campaign : Campaign) (shares : ℕ) (withouts : ℕ → Findings) (trials : ℕ → List Trial)
    : Type 0 where
  pub are_trials : AreTrials n c campaign None (withouts 1) (flat_map trials (range_with_len 1 shares))
  pub lines : (look : Look)
      → lines_of look (withouts 1) (flat_map trials (range_with_len 1 shares))
      ≡ head look ++ flat_map (λ number. packet_lines look (withouts number) (trials number)) (range_with_len 1 shares)

abbrev pub SharesAreTheSweep : Type 0
SharesAreTheSweep =
    (n : ℕ) (c : ScenarioData) (campaign : Campaign) (shares packets : ℕ) (withouts : ℕ → Findings) (trials : ℕ → List Trial)
    → 0 < shares → HasPackets c campaign.choice packets
    → ((number : ℕ) → 1 ≤ number → number ≤ shares
    → AreTrials n c campaign (Some (share_of number shares packets)) (withouts number) (trials number))
    → AreWhole n c campaign shares withouts trials

-- Where packets are lost alone, each that is chosen has its trial, or each of a part, once and in the run's order.
pub record AreAlone (c : ScenarioData) (campaign : Campaign) (part : Option Part) (trials : List Trial) : Type 0 where
  pub base : List (ℕ × Entry)
  pub shows : Shows (plan_of c) base
  pub packets_are : map (λ (trial : Trial). trial.packets) trials ≡ map One (part_of part (chosen campaign.choice base))

abbrev pub SinglesAreThePackets : Type 0
SinglesAreThePackets =
    (n : ℕ) (c : ScenarioData) (campaign : Campaign) (part : Option Part) (without : Findings) (trials : List Trial)
    → campaign.any ≤ 1 → AreTrials n c campaign part without trials → AreAlone c campaign part trials
