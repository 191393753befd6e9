-- What a sweep writes.
use Rattle.std.specs.Prelude.{◌≡◌, ℕ, List, [], ◌++◌, length, map, ◌⊎◌, Option, Result, Ok, Err}
use Rattle.std.specs.List.{AllByRecursion, filter, flat_map}
use Rattle.std.specs.Io.KnownBytes.{Appends}
use Rattle.pd_device.specs.Device.{WrotePart, one_more}
use Rattle.pd_device.specs.declared.fault.BenchFault.{BenchFault}
use Rattle.pd_device.specs.declared.fault.BenchFault.TheVariants.{ReadFailed, WriteFailed, Memory, ReaderTooLong}
use Rattle.pd_port.specs.declared.entry.Entry.{Entry}
use Rattle.pd_run.specs.Shown.{Shows}
use Rattle.pd_scenario.specs.Plans.{plan_of}
use Rattle.pd_scenario.specs.Scenarios.{ScenarioData}
use Rattle.pd_sweep.specs.Choices.{chosen}
use Rattle.pd_sweep.specs.Sets.{are_any}
use Rattle.pd_sweep.specs.Summaries.{AreFindings}
use Rattle.pd_sweep.specs.Sums.{sums_of}
use Rattle.pd_sweep.specs.Tallies.{tally_of}
use Rattle.pd_sweep.specs.Trials.{IsTrial, Tries}
use Rattle.pd_sweep.specs.declared.choice.Campaign.{Campaign}
use Rattle.pd_sweep.specs.declared.findings.Findings.{Findings}
use Rattle.pd_sweep.specs.declared.tally.Tally.{Tally}
use Rattle.pd_sweep.specs.declared.sets.Packets.{Packets}
use Rattle.pd_sweep.specs.declared.sets.Packets.TheVariants.{One}
use Rattle.pd_sweep.specs.declared.trial.Trial.{Trial}
use Rattle.pd_sweep.specs.Forms.{closing, head, is_shown, trial_text}
use Rattle.pd_sweep.specs.Parts.{part_of}
use Rattle.pd_sweep.specs.declared.form.Look.{Look}
use Rattle.pd_sweep.specs.declared.part.Part.{Part}

-- a line for each trial that is shown, in their order
abbrev pub packet_lines : Look → Findings → List Trial → List ℕ
packet_lines look old trials = flat_map (trial_text look.form old) (filter (is_shown look old) trials)

-- what stands first, and these lines
abbrev pub lines_of : Look → Findings → List Trial → List ℕ
lines_of look old trials = head look ++ packet_lines look old trials

-- and the kinds of messages, where they are told of in place of packets, and the summary; so many sets are left untried
abbrev pub text_of : Look → Option ℕ → Findings → List Trial → List Packets → List ℕ
text_of look reserve old trials left = lines_of look old trials ++ closing look reserve (sums_of reserve old trials) (are_any left)

-- Each packet that is chosen of the scenario's run, which is safe, or each of a part of these, waits, and these are the trials that are
-- made in turn, until so many sets are left; and these are the findings of that run, in which none is lost.
pub record AreSome (n : ℕ) (c : ScenarioData) (campaign : Campaign) (part : Option Part) (without : Findings) (trials : List Trial)
    (left : List Packets) : Type 0 where
  pub base : List (ℕ × Entry)
  pub shows : Shows (plan_of c) base
  pub without_is : AreFindings (plan_of c) base without
  pub tried : Tries c campaign (map One (part_of part (chosen campaign.choice base))) trials left
  pub each : AllByRecursion (IsTrial n c campaign) trials

-- none is left
abbrev pub AreTrials : ℕ → ScenarioData → Campaign → Option Part → Findings → List Trial → Type 0
AreTrials n c campaign part without trials = AreSome n c campaign part without trials []

-- the text tells of these trials: of all, or of as many as were to be tried at most
pub record WroteSweep (n : ℕ) (c : ScenarioData) (campaign : Campaign) (part : Option Part) (look : Look) (old new : Option (List ℕ))
    (tally : Tally) : Type 0 where
  pub without : Findings
  pub trials : List Trial
  pub left : List Packets
  pub are_trials : AreSome n c campaign part without trials left
  pub ends : (left ≡ []) ⊎ (length trials ≡ campaign.most)
  pub tally_is : tally ≡ tally_of campaign.reserve without trials
  pub appends : Appends old new (text_of look campaign.reserve without trials left)

-- the first bytes of the text of the first of these trials were written
pub record BeganSweep (n : ℕ) (c : ScenarioData) (campaign : Campaign) (part : Option Part) (look : Look) (old new : Option (List ℕ))
    : Type 0 where
  pub without : Findings
  pub trials : List Trial
  pub left : List Packets
  pub are_trials : AreSome n c campaign part without trials left
  pub wrote : WrotePart old new (text_of look campaign.reserve without trials left)

-- where the run of the scenario itself has no memory, nothing is written
abbrev pub Sweeps : ℕ → ScenarioData → Campaign → Option Part → Look → Result Tally BenchFault → Option (List ℕ) → Option (List ℕ) → Type 0
Sweeps n c campaign part look (Ok tally) old new = WroteSweep n c campaign part look old new tally
Sweeps n c campaign part look (Err fault) old new = (new ≡ old) ⊎ BeganSweep n c campaign part look old new

-- whether a write failed, by the count of failed calls; no read does
abbrev pub CountsSweep : {X : Type 0} → Result X BenchFault → ℕ → ℕ → Type 0
CountsSweep (Ok x) writes writes' = writes' ≡ writes
CountsSweep (Err ReadFailed) writes writes' = ⊥
CountsSweep (Err WriteFailed) writes writes' = writes' ≡ one_more writes
CountsSweep (Err Memory) writes writes' = writes' ≡ writes
CountsSweep (Err ReaderTooLong) writes writes' = ⊥
