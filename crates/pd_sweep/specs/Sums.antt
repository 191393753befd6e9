-- What the trials of the packets of each kind of message come to.
use Rattle.std.specs.Prelude.{ℕ, ◌-◌, ◌<◌, ◌≤◌, ◌^◌, Bool, if◌then◌else◌, List, [], ◌∷◌, ◌++◌, map, replicate, Option, Some}
use Rattle.std.specs.List.{AllByRecursion, filter}
use Rattle.pd_header.specs.Kinds.{control_messages, data_messages, kind_of_header}
use Rattle.pd_header.specs.declared.kind.Kind.{Kind}
use Rattle.pd_sweep.specs.Choices.{is_of_kind}
use Rattle.pd_sweep.specs.Sets.{first_of}
use Rattle.pd_sweep.specs.Tallies.{no_trial, noted_trial, tally_of}
use Rattle.pd_sweep.specs.declared.findings.Findings.{Findings}
use Rattle.pd_sweep.specs.declared.sums.Sums.{Sums}
use Rattle.pd_sweep.specs.declared.tally.Tally.{Tally}
use Rattle.pd_sweep.specs.declared.trial.Trial.{Trial}

-- the kinds of messages in the standard's order: control messages, then data messages
abbrev pub kinds : List Kind
kinds = control_messages ++ data_messages

-- the first packet of a trial is of a kind
abbrev pub is_of : Kind → Trial → Bool
is_of kind trial = is_of_kind (Some kind) (kind_of_header (first_of trial.packets).header)

-- what the trials of the packets of a kind come to
abbrev pub kind_tally : Option ℕ → Findings → List Trial → Kind → Tally
kind_tally reserve old trials kind = tally_of reserve old (filter (is_of kind) trials)

-- what all trials come to, and those of each kind
abbrev pub sums_of : Option ℕ → Findings → List Trial → Sums
sums_of reserve old trials = record { all = tally_of reserve old trials; kinds = map (kind_tally reserve old trials) kinds }

-- ---- one trial after another

abbrev pub no_sums : Sums
no_sums = record { all = no_trial; kinds = replicate 13 no_trial }

-- one more trial counts for a kind if its packet is of it
abbrev pub noted_of : Option ℕ → Findings → Trial → Kind → Tally → Tally
noted_of reserve old trial kind tally = if is_of kind trial then noted_trial reserve old tally trial else tally

abbrev pub noted_kinds : Option ℕ → Findings → Trial → List Kind → List Tally → List Tally
noted_kinds reserve old trial [] tallies = tallies
noted_kinds reserve old trial (kind ∷ others) [] = []
noted_kinds reserve old trial (kind ∷ others) (tally ∷ tallies) =
    noted_of reserve old trial kind tally ∷ noted_kinds reserve old trial others tallies

abbrev pub noted_sums : Option ℕ → Findings → Sums → Trial → Sums
noted_sums reserve old sums trial =
    record { all = noted_trial reserve old sums.all trial; kinds = noted_kinds reserve old trial kinds sums.kinds }

-- one more trial can be counted
pub record HasRoom (tally : Tally) : Type 0 where
  pub room : tally.tried < 2 ^ 64 - 1
  pub few : tally.changed ≤ tally.tried
  pub few_different : tally.different ≤ tally.tried
  pub few_short : tally.short ≤ tally.tried
  pub few_sets : tally.sets ≤ tally.tried

pub record HaveRoom (sums : Sums) : Type 0 where
  pub all : HasRoom sums.all
  pub kinds : AllByRecursion HasRoom sums.kinds
