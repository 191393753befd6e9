-- What the trials of each kind of message come to, one trial after another.
use Rattle.std.proofs.Common.{◌≡◌, ℕ, zero, suc, ◌+◌, ◌-◌, ◌<◌, ◌≤◌, ◌^◌, Bool, true, false, cond, List, [], ◌∷◌, ◌++◌, length, map, take}
use Rattle.std.proofs.Common.{get_or, set, Option, arith, refl, sym, ap, ◌∙◌}
use Rattle.std.specs.Prelude.{fold, nat_lt}
use Rattle.std.specs.List.{AllByRecursion, filter}
use Rattle.std.proofs.lemmas.List.Elements.{filter-append}
use Rattle.std.proofs.lemmas.List.Sums.{fold-append}
use Rattle.pd_edit.proofs.Listed.{length-filter-le}
use Rattle.pd_header.specs.declared.kind.Kind.{Kind}
use Rattle.pd_sweep.specs.Sets.{count_of}
use Rattle.pd_sweep.specs.Sums.{HasRoom, HaveRoom, is_of, kind_tally, kinds, no_sums, noted_kinds, noted_of, noted_sums, sums_of}
use Rattle.pd_sweep.specs.Tallies.{is_short, no_trial, noted_outcome, noted_trial, tally_of}
use Rattle.pd_sweep.specs.Words.{are_same, makes_difference}
use Rattle.pd_sweep.specs.declared.findings.Findings.{Findings}
use Rattle.pd_sweep.specs.declared.tally.Tally.{Tally}
use Rattle.pd_sweep.specs.declared.sets.Packets.{Packets}
use Rattle.pd_sweep.specs.declared.trial.Outcome.{Outcome}
use Rattle.pd_sweep.specs.declared.trial.Outcome.TheVariants.{Ran}
use Rattle.pd_sweep.specs.declared.trial.Trial.{Trial}

module _ (reserve : Option ℕ) (old : Findings) where
  -- ---- one more trial

  one_alone : (tally : Tally) (trial : Trial) (b : Bool) →
      fold (noted_trial reserve old) tally (cond b (trial ∷ []) []) ≡ cond b (noted_trial reserve old tally trial) tally
  one_alone tally trial true = refl
  one_alone tally trial false = refl

  kind_more : (trials : List Trial) (trial : Trial) (kind : Kind) →
      noted_of reserve old trial kind (kind_tally reserve old trials kind) ≡ kind_tally reserve old (trials ++ trial ∷ []) kind
  kind_more trials trial kind =
      let note : Tally → Trial → Tally = noted_trial reserve old in
      let past : List Trial = filter (is_of kind) trials in
      sym (ap (fold note no_trial) (filter-append (is_of kind) trials (trial ∷ []))
      ∙ fold-append note no_trial past (filter (is_of kind) (trial ∷ []))
      ∙ one_alone (fold note no_trial past) trial (is_of kind trial))

  kinds_more : (trials : List Trial) (trial : Trial) (ks : List Kind) →
      noted_kinds reserve old trial ks (map (kind_tally reserve old trials) ks) ≡ map (kind_tally reserve old (trials ++ trial ∷ [])) ks
  kinds_more trials trial [] = refl
  kinds_more trials trial (k ∷ ks) =
      ap (λ t. t ∷ noted_kinds reserve old trial ks (map (kind_tally reserve old trials) ks)) (kind_more trials trial k)
      ∙ ap (λ ts. kind_tally reserve old (trials ++ trial ∷ []) k ∷ ts) (kinds_more trials trial ks)

  pub sums_none : no_sums ≡ sums_of reserve old []
  sums_none = refl

  pub sums_more : (trials : List Trial) (trial : Trial) →
      noted_sums reserve old (sums_of reserve old trials) trial ≡ sums_of reserve old (trials ++ trial ∷ [])
  sums_more trials trial =
      let all = sym (fold-append (noted_trial reserve old) no_trial trials (trial ∷ [])) in
      let each = kinds_more trials trial kinds in
      λ i. record { all = all i; kinds = each i }

  -- ---- the kinds one after another

  pub rest_kept : (trial : Trial) (ks : List Kind) (ts : List Tally) (i : ℕ) (d : Tally) →
      get_or (noted_kinds reserve old trial (take i ks) ts) i d ≡ get_or ts i d
  rest_kept trial ks ts zero d = refl
  rest_kept trial [] ts (suc i) d = refl
  rest_kept trial (k ∷ ks) [] (suc i) d = refl
  rest_kept trial (k ∷ ks) (t ∷ ts) (suc i) d = rest_kept trial ks ts i d

  pub one_more_kind : (trial : Trial) (ks : List Kind) (ts : List Tally) (i : ℕ) (dk : Kind) (dt : Tally) → i < length ks →
      noted_kinds reserve old trial (take (suc i) ks) ts
      ≡ set (noted_kinds reserve old trial (take i ks) ts) i (noted_of reserve old trial (get_or ks i dk) (get_or ts i dt))
  one_more_kind trial [] ts i dk dt h = absurd (omega arith)
  one_more_kind trial (k ∷ ks) [] zero dk dt h = refl
  one_more_kind trial (k ∷ ks) (t ∷ ts) zero dk dt h = refl
  one_more_kind trial (k ∷ ks) [] (suc i) dk dt h = refl
  one_more_kind trial (k ∷ ks) (t ∷ ts) (suc i) dk dt h =
      ap (λ v. noted_of reserve old trial k t ∷ v) (one_more_kind trial ks ts i dk dt (omega arith))

  pub room_at : (ts : List Tally) (i : ℕ) (d : Tally) → AllByRecursion HasRoom ts → i < length ts → HasRoom (get_or ts i d)
  room_at [] i d all h = absurd (omega arith)
  room_at (t ∷ ts) zero d all h = all.0
  room_at (t ∷ ts) (suc i) d all h = room_at ts i d all.1 (omega arith)

  -- ---- how much they count

  record Counts (n : ℕ) (tally : Tally) : Type 0 where
    tried : tally.tried ≤ n
    changed : tally.changed ≤ tally.tried
    different : tally.different ≤ tally.tried
    short : tally.short ≤ tally.tried
    sets : tally.sets ≤ tally.tried

  one_more_if : (b : Bool) (m n : ℕ) → m ≤ n → cond b (m + 1) m ≤ n + 1
  one_more_if true m n h = omega arith
  one_more_if false m n h = omega arith

  one_more_unless : (b : Bool) (m n : ℕ) → m ≤ n → cond b m (m + 1) ≤ n + 1
  one_more_unless true m n h = omega arith
  one_more_unless false m n h = omega arith

  counts_outcome : (n : ℕ) (tally : Tally) (t : Packets) (outcome : Outcome) → Counts n tally →
      Counts (n + 1) (noted_outcome reserve old tally t outcome)
  counts_outcome n tally t (Ran effect) c = record {
    tried = omega (arith, c.tried);
    changed =
        one_more_unless (are_same old.summary.standing.contracts effect.findings.summary.standing.contracts) tally.changed tally.tried
        c.changed;
    different = one_more_if (makes_difference old effect) tally.different tally.tried c.different;
    short = one_more_if (is_short reserve effect.findings.margin) tally.short tally.tried c.short;
    sets = one_more_if (nat_lt 1 (count_of t)) tally.sets tally.tried c.sets;
  }
  counts_outcome n tally t _ c = record {
    tried = omega (arith, c.tried);
    changed = c.changed;
    different = c.different;
    short = c.short;
    sets = c.sets;
  }

  counts_from : (n : ℕ) (tally : Tally) (trials : List Trial) → Counts n tally →
      Counts (n + length trials) (fold (noted_trial reserve old) tally trials)
  counts_from n tally [] c = record {
    tried = omega (arith, c.tried);
    changed = c.changed;
    different = c.different;
    short = c.short;
    sets = c.sets;
  }
  counts_from n tally (x ∷ xs) c =
      let rest = counts_from (n + 1) (noted_trial reserve old tally x) xs (counts_outcome n tally x.packets x.outcome c) in
      record {
        tried = omega (arith, rest.tried);
        changed = rest.changed;
        different = rest.different;
        short = rest.short;
        sets = rest.sets;
      }

  none_counted : Counts 0 no_trial
  none_counted = record { tried = omega arith; changed = omega arith; different = omega arith; short = omega arith; sets = omega arith }

  room_of : (trials : List Trial) → length trials < 2 ^ 64 - 1 → HasRoom (tally_of reserve old trials)
  room_of trials few =
      let c = counts_from 0 no_trial trials none_counted in
      record {
        room = omega (arith, c.tried, few);
        few = c.changed;
        few_different = c.different;
        few_short = c.short;
        few_sets = c.sets;
      }

  room_of_kinds : (trials : List Trial) (ks : List Kind) → length trials < 2 ^ 64 - 1 →
      AllByRecursion HasRoom (map (kind_tally reserve old trials) ks)
  room_of_kinds trials [] few = tt
  room_of_kinds trials (k ∷ ks) few = (
    room_of (filter (is_of k) trials) (omega (arith, few, length-filter-le (is_of k) trials)),
    room_of_kinds trials ks few,
  )

  pub have_room : (trials : List Trial) → length trials < 2 ^ 64 - 1 → HaveRoom (sums_of reserve old trials)
  have_room trials few = record { all = room_of trials few; kinds = room_of_kinds trials kinds few }
