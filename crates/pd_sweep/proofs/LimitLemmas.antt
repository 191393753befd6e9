-- A limit is passed exactly where a run of the sweep passes it.
use Rattle.std.proofs.Common.{◌≡◌, ℕ, ◌+◌, ◌-◌, Bool, true, false, cond, List, [], ◌∷◌, refl, sym, ap, ◌∙◌, arith}
use Rattle.std.proofs.Common.{Option, Some, None}
use Rattle.std.specs.Prelude.{nat_lt, not, ◌&&◌, ◌||◌, fold, is_some}
use Rattle.std.specs.List.{list_any}
use Rattle.std.proofs.lemmas.Bool.Decides.{nat_tests}
use Rattle.pd_sweep.specs.Limits.{LimitsAreOfRuns, ends_otherwise, has_more_resets, has_run, lacks_power, longer_than}
use Rattle.pd_sweep.specs.Limits.{power_over, power_passed, resets_over, runs_over, some_run}
use Rattle.pd_sweep.specs.Tallies.{no_trial, noted_outcome, noted_trial, so_far_on, tally_of, worse, worse_on, worst_of}
use Rattle.pd_sweep.specs.Words.{are_same}
use Rattle.pd_sweep.specs.declared.effect.Effect.{Effect}
use Rattle.pd_sweep.specs.declared.findings.Findings.{Findings}
use Rattle.pd_sweep.specs.declared.measure.Extent.TheVariants.{Less}
use Rattle.pd_sweep.specs.declared.measure.Measure.{Measure}
use Rattle.pd_sweep.specs.declared.sets.Packets.{Packets}
use Rattle.pd_sweep.specs.declared.tally.Tally.{Tally}
use Rattle.pd_sweep.specs.declared.tally.Worst.{Worst}
use Rattle.pd_sweep.specs.declared.tally.WorstOn.{WorstOn}
use Rattle.pd_sweep.specs.declared.trial.Outcome.{Outcome}
use Rattle.pd_sweep.specs.declared.trial.Outcome.TheVariants.{Ran}
use Rattle.pd_sweep.specs.declared.trial.Trial.{Trial}

-- ---- tests

or_assoc : (a b c : Bool) → ((a || b) || c) ≡ (a || (b || c))
or_assoc true b c = refl
or_assoc false b c = refl

or_false : (a : Bool) → (a || false) ≡ a
or_false true = refl
or_false false = refl

-- what a step may bring about is so at the end where it was so, or some element brings it about
fold_passes : {A X : Type 0} (f : A → X → A) (P : A → Bool) (q : X → Bool) → ((a : A) (x : X) → P (f a x) ≡ (P a || q x)) →
    (a : A) (xs : List X) → P (fold f a xs) ≡ (P a || list_any q xs)
fold_passes f P q step a [] = sym (or_false (P a))
fold_passes f P q step a (x ∷ xs) =
    fold_passes f P q step (f a x) xs ∙ ap (λ b. b || list_any q xs) (step a x) ∙ or_assoc (P a) (q x) (list_any q xs)

module _ (old : Findings) (reserve : Option ℕ) where
  abbrev note : Tally → Trial → Tally
  note tally trial = noted_trial reserve old tally trial

  -- a test of the tally that each run may make true, and nothing else
  each_trial : (P : Tally → Bool) (does : Effect → Bool) →
      ((tally : Tally) (t : Packets) (effect : Effect) → P (noted_outcome reserve old tally t (Ran effect)) ≡ (P tally || does effect)) →
      (tally : Tally) (t : Packets) (outcome : Outcome) →
      P (noted_outcome reserve old tally t outcome) ≡ (P tally || has_run does outcome)
  each_trial P does step tally t (Ran effect) = step tally t effect
  each_trial P does step tally t _ = sym (or_false (P tally))

  of_runs : (P : Tally → Bool) (does : Effect → Bool) →
      ((tally : Tally) (t : Packets) (effect : Effect) → P (noted_outcome reserve old tally t (Ran effect)) ≡ (P tally || does effect)) →
      P no_trial ≡ false → (trials : List Trial) → P (tally_of reserve old trials) ≡ some_run does trials
  of_runs P does step none trials =
      fold_passes note P (λ (trial : Trial). has_run does trial.outcome)
      (λ tally trial. each_trial P does step tally trial.packets trial.outcome) no_trial trials
      ∙ ap (λ b. b || some_run does trials) none

-- ---- other contracts

one_more : (b : Bool) (n : ℕ) → nat_lt 0 (cond b n (n + 1)) ≡ (nat_lt 0 n || not b)
one_more true n = sym (or_false (nat_lt 0 n))
one_more false n = more_is_some n
  where
    more_is_some : (m : ℕ) → nat_lt 0 (m + 1) ≡ (nat_lt 0 m || true)
    more_is_some m = grind (arith, nat_tests)

runs_some : (limit : Bool) (runs : ℕ) → is_some (runs_over limit runs) ≡ (limit && nat_lt 0 runs)
runs_some limit runs = some_alone (limit && nat_lt 0 runs)
  where
    some_alone : (b : Bool) → is_some (cond b (Some runs) None) ≡ b
    some_alone true = refl
    some_alone false = refl

-- ---- Hard Resets

some_either : (b : Bool) (v : Worst) (best : Option Worst) → is_some (cond b (Some v) best) ≡ (is_some best || b)
some_either true v None = refl
some_either true v (Some w) = refl
some_either false v best = sym (or_false (is_some best))

more_than : (old new : ℕ) → nat_lt 0 (new - old) ≡ nat_lt old new
more_than old new = grind (arith, nat_tests)

some_worse : (best : Option Worst) (t : Packets) (old new : ℕ) → is_some (worse best t (new - old)) ≡ (is_some best || nat_lt old new)
some_worse None t old new = some_either (nat_lt 0 (new - old)) (record { packets = t; by = new - old }) None ∙ more_than old new
some_worse (Some w) t old new = kept (nat_lt w.by (new - old))
  where
    kept : (b : Bool) → is_some (cond b (Some (record { packets = t; by = new - old })) (Some w)) ≡ true
    kept true = refl
    kept false = refl

resets_some : (limit : Bool) (worst : Option Worst) → is_some (resets_over limit worst) ≡ (limit && is_some worst)
resets_some true worst = refl
resets_some false worst = refl

-- ---- less power

module _ (us : ℕ) where
  abbrev is_over : Option WorstOn → Bool
  is_over best = nat_lt us (so_far_on best)

  over_either : (a b : ℕ) → nat_lt us (cond (nat_lt a b) b a) ≡ (nat_lt us a || nat_lt us b)
  over_either a b = grind (arith, nat_tests)

  so_far_either : (b : Bool) (w : WorstOn) (best : Option WorstOn) → so_far_on (cond b (Some w) best) ≡ cond b w.by (so_far_on best)
  so_far_either true w best = refl
  so_far_either false w best = refl

  over_worse : (best : Option WorstOn) (t : Packets) (port by : ℕ) → is_over (worse_on best t port by) ≡ (is_over best || nat_lt us by)
  over_worse best t port by =
      ap (nat_lt us) (so_far_either (nat_lt (so_far_on best) by) (record { packets = t; port = port; by = by }) best)
      ∙ over_either (so_far_on best) by

  over_worst : (best : Option WorstOn) (t : Packets) (port : ℕ) (ms : List Measure) →
      is_over (worst_of Less best t port ms) ≡ (is_over best || list_any (λ m. nat_lt us m.less) ms)
  over_worst best t port [] = sym (or_false (is_over best))
  over_worst best t port (m ∷ ms) =
      over_worst (worse_on best t port m.less) t (port + 1) ms
      ∙ ap (λ b. b || list_any (λ n. nat_lt us n.less) ms) (over_worse best t port m.less)
      ∙ or_assoc (is_over best) (nat_lt us m.less) (list_any (λ n. nat_lt us n.less) ms)

  longer_some : (worst : Option WorstOn) → is_some (longer_than us worst) ≡ is_over worst
  longer_some None = none_over
    where
      none_over : false ≡ nat_lt us 0
      none_over = grind (arith, nat_tests)
  longer_some (Some w) = alone (nat_lt us w.by)
    where
      alone : (b : Bool) → is_some (cond b (Some w) None) ≡ b
      alone true = refl
      alone false = refl

power_some : (limit : Option ℕ) (old : Findings) (reserve : Option ℕ) (trials : List Trial) →
    is_some (power_over limit (tally_of reserve old trials).less) ≡ power_passed limit trials
power_some None old reserve trials = refl
power_some (Some us) old reserve trials =
    longer_some us (tally_of reserve old trials).less
    ∙ of_runs old reserve (λ tally. is_over us tally.less) (lacks_power us)
    (λ tally t effect. over_worst us tally.less t 1 effect.measures) (sym (longer_some us None)) trials

-- ---- all

pub limits_are_of_runs : LimitsAreOfRuns
limits_are_of_runs limits reserve old trials = record {
  other_contracts =
      runs_some limits.other_contracts (tally_of reserve old trials).changed
      ∙ ap (λ b. limits.other_contracts && b)
      (of_runs old reserve (λ tally. nat_lt 0 tally.changed) (ends_otherwise old)
      (λ tally t effect. one_more (are_same old.summary.standing.contracts effect.findings.summary.standing.contracts) tally.changed)
      refl trials);
  hard_resets =
      resets_some limits.hard_resets (tally_of reserve old trials).hard_resets
      ∙ ap (λ b. limits.hard_resets && b)
      (of_runs old reserve (λ tally. is_some tally.hard_resets) (has_more_resets old)
      (λ tally t effect. some_worse tally.hard_resets t old.summary.mishaps.hard_resets effect.findings.summary.mishaps.hard_resets)
      refl trials);
  less_power = power_some limits.less_power old reserve trials;
}
