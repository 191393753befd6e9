-- The shares of a sweep together are the sweep.
use Rattle.std.proofs.Common.{◌≡◌, ℕ, zero, suc, ◌+◌, ◌-◌, ◌*◌, ◌/◌, ◌<◌, ◌≤◌, List, [], ◌∷◌, ◌++◌, length, map, take, drop, Some, None}
use Rattle.std.proofs.Common.{arith, refl, sym, ap, subst, ◌∙◌, add-one, add-zero, zero-add, suc-add}
use Rattle.std.specs.List.{flat_map, range_with_len}
use Rattle.std.proofs.Math.Nat.{add-sub_cancel, add-sub_of_le, div-mul-le_self, le-div_iff_mul-le, mul-div_cancel_left, zero-div, zero-mul}
use Rattle.std.proofs.lemmas.List.{append-nil, take_all}
use Rattle.std.proofs.lemmas.List.Concat.{flat_map-append}
use Rattle.std.proofs.lemmas.List.Elements.{filter-append}
use Rattle.std.proofs.lemmas.List.Folds.{flat_map-map}
use Rattle.std.proofs.lemmas.List.FromFn.{map-range_with_len_more}
use Rattle.pd_port.specs.declared.entry.Entry.{Entry}
use Rattle.pd_scenario.specs.Plans.{plan_of}
use Rattle.pd_scenario.specs.Scenarios.{ScenarioData}
use Rattle.pd_sweep.specs.Choices.{chosen}
use Rattle.pd_sweep.specs.Counts.{HasPackets}
use Rattle.pd_sweep.specs.Forms.{head, is_shown, trial_text}
use Rattle.pd_sweep.specs.Parts.{share_of, share_start}
use Rattle.pd_sweep.specs.Summaries.{AreFindings}
use Rattle.pd_sweep.specs.Sweeps.{AreTrials, packet_lines}
use Rattle.pd_sweep.specs.Trials.{Tries}
use Rattle.pd_sweep.specs.Whole.{SharesAreTheSweep, SharesCoverOnce, from_on, places_of}
use Rattle.pd_sweep.specs.declared.choice.Campaign.{Campaign}
use Rattle.pd_sweep.specs.declared.findings.Findings.{Findings}
use Rattle.pd_sweep.specs.declared.form.Look.{Look}
use Rattle.pd_sweep.specs.declared.packets.Target.{Target}
use Rattle.pd_sweep.specs.declared.part.Part.{Part}
use Rattle.pd_sweep.specs.declared.sets.Packets.TheVariants.{One}
use Rattle.pd_sweep.specs.declared.trial.Trial.{Trial}
use Rattle.pd_sweep.proofs.WholeLemmas.{parts_join, same_entries, same_findings}

-- ---- lists

-- one more number
more_in_range : {X : Type 0} (f : ℕ → List X) (a n j : ℕ) → a + n ≡ j →
    flat_map f (range_with_len a (n + 1)) ≡ flat_map f (range_with_len a n) ++ f j
more_in_range {X} f a n j e =
    let same : List X → List X = λ xs. xs in
    sym (flat_map-map same f (range_with_len a (n + 1))) ∙ ap (flat_map same) (map-range_with_len_more f a n j e)
    ∙ flat_map-append same (map f (range_with_len a n)) (f j ∷ [])
    ∙ ap (λ v. v ++ (f j ++ [])) (flat_map-map same f (range_with_len a n))
    ∙ ap (λ v. flat_map f (range_with_len a n) ++ v) (append-nil (f j))

range-append : (a n m : ℕ) → range_with_len a (n + m) ≡ range_with_len a n ++ range_with_len (a + n) m
range-append a zero m = ap (λ k. range_with_len a k) (zero-add m) ∙ ap (λ k. range_with_len k m) (sym (add-zero a))
range-append a (suc n) m =
    let more : a + 1 + n ≡ a + suc n = omega arith in
    ap (λ k. range_with_len a k) (suc-add n m)
    ∙ ap (λ v. a ∷ v) (range-append (a + 1) n m ∙ ap (λ k. range_with_len (a + 1) n ++ range_with_len k m) more)

-- ---- where a share starts

module _ (shares packets : ℕ) where
  abbrev start : ℕ → ℕ
  start before = share_start before shares packets

  start_zero : start 0 ≡ 0
  start_zero = ap (λ n. n / shares) (zero-mul packets) ∙ zero-div shares

  start_all : 0 < shares → start shares ≡ packets
  start_all some = mul-div_cancel_left packets some

  start_rises : (k : ℕ) → 0 < shares → start k ≤ start (k + 1)
  start_rises k some = (le-div_iff_mul-le some).1 (omega (arith, div-mul-le_self (k * packets) shares))

  start_more : (k : ℕ) → 0 < shares → start k + (start (k + 1) - start k) ≡ start (k + 1)
  start_more k some = add-sub_of_le (start_rises k some)

  share_behind : (k : ℕ) → share_of (k + 1) shares packets ≡ from_on (start k) (start (k + 1) - start k)
  share_behind k = ap (λ j. from_on (start j) (start (k + 1) - start j)) (add-sub_cancel k 1)

  -- ---- the places of shares

  abbrev places : ℕ → List ℕ
  places number = places_of (share_of number shares packets)

  abbrev Covers : ℕ → Type 0
  Covers k = flat_map places (range_with_len 1 k) ≡ range_with_len 0 (start k)

  covers_more : 0 < shares → (k : ℕ) → Covers k → Covers (k + 1)
  covers_more some k before =
      let size : ℕ = start (k + 1) - start k in
      let here : places (k + 1) ≡ range_with_len (0 + start k) size =
      ap places_of (share_behind k) ∙ ap (λ a. range_with_len a size) (sym (zero-add (start k))) in
      more_in_range places 1 k (k + 1) (omega arith) ∙ ap (λ v. v ++ places (k + 1)) before
      ∙ ap (λ v. range_with_len 0 (start k) ++ v) here ∙ sym (range-append 0 (start k) size)
      ∙ ap (range_with_len 0) (start_more k some)

  covers : 0 < shares → (k : ℕ) → Covers k
  covers some zero = ap (range_with_len 0) (sym start_zero)
  covers some (suc k) = subst Covers (add-one k) (covers_more some k (covers some k))

pub shares_cover_once : SharesCoverOnce
shares_cover_once shares packets some =
    covers shares packets some shares ∙ ap (range_with_len 0) (start_all shares packets some)

-- ---- the trials of shares

module _ (n : ℕ) (c : ScenarioData) (campaign : Campaign) (shares packets : ℕ) (withouts : ℕ → Findings) (trials : ℕ → List Trial)
    (some : 0 < shares)
    (each : (number : ℕ) → 1 ≤ number → number ≤ shares →
    AreTrials n c campaign (Some (share_of number shares packets)) (withouts number) (trials number)) where
  -- the trials of the first so many shares
  abbrev Joined : ℕ → Type 0
  Joined k =
      AreTrials n c campaign (Some (from_on 0 (start shares packets k))) (withouts 1) (flat_map trials (range_with_len 1 k))

  joined_none : Joined 0
  joined_none =
      let one = each 1 (omega arith) (omega arith) in
      record {
        base = one.base;
        shows = one.shows;
        without_is = one.without_is;
        tried = ap (λ i. map One (take i (drop 0 (chosen campaign.choice one.base)))) (sym (start_zero shares packets));
        each = tt;
      }

  joined_more : (k : ℕ) → k + 1 ≤ shares → Joined k → Joined (k + 1)
  joined_more k within before =
      let s : ℕ → ℕ = start shares packets in
      let size : ℕ = s (k + 1) - s k in
      let Of : Part → Type 0 = λ p. AreTrials n c campaign (Some p) (withouts (k + 1)) (trials (k + 1)) in
      let behind : share_of (k + 1) shares packets ≡ from_on (0 + s k) size =
      share_behind shares packets k ∙ ap (λ a. from_on a size) (sym (zero-add (s k))) in
      let here : Of (from_on (0 + s k) size) = subst Of behind (each (k + 1) (omega arith) within) in
      let past : List Trial = flat_map trials (range_with_len 1 k) in
      let both = parts_join n c campaign 0 (s k) size (withouts 1) (withouts (k + 1)) past (trials (k + 1)) before here in
      let Up : ℕ → Type 0 = λ m. AreTrials n c campaign (Some (from_on 0 m)) (withouts 1) (past ++ trials (k + 1)) in
      let At : List Trial → Type 0 = λ ts. AreTrials n c campaign (Some (from_on 0 (s (k + 1)))) (withouts 1) ts in
      subst At (sym (more_in_range trials 1 k (k + 1) (omega arith))) (subst Up (start_more shares packets k some) both.1)

  joined : (k : ℕ) → k ≤ shares → Joined k
  joined zero within = joined_none
  joined (suc k) within = subst Joined (add-one k) (joined_more k (omega arith) (joined k (omega arith)))

  -- the run without a loss is the same in each share
  same_without : (number : ℕ) → 1 ≤ number → number ≤ shares → withouts number ≡ withouts 1
  same_without number first last =
      let one = each 1 (omega arith) (omega arith) in
      let here = each number first last in
      let same : here.base ≡ one.base = same_entries (plan_of c) one.base here.base one.shows here.shows in
      let Found : List (ℕ × Entry) → Type 0 = λ b. AreFindings (plan_of c) b (withouts number) in
      same_findings (plan_of c) one.base (withouts 1) (withouts number) one.without_is (subst Found same here.without_is)

  module _ (look : Look) where
    abbrev of_share : ℕ → List ℕ
    of_share number = packet_lines look (withouts number) (trials number)

    abbrev Lines : ℕ → Type 0
    Lines k = packet_lines look (withouts 1) (flat_map trials (range_with_len 1 k)) ≡ flat_map of_share (range_with_len 1 k)

    lines_append : (xs ys : List Trial) →
        packet_lines look (withouts 1) (xs ++ ys) ≡ packet_lines look (withouts 1) xs ++ packet_lines look (withouts 1) ys
    lines_append xs ys =
        let f : Trial → List ℕ = trial_text look.form (withouts 1) in
        ap (flat_map f) (filter-append (is_shown look (withouts 1)) xs ys)
        ∙ flat_map-append f _ _

    lines_more : (k : ℕ) → k + 1 ≤ shares → Lines k → Lines (k + 1)
    lines_more k within before =
        let behind : List Trial = trials (k + 1) in
        ap (packet_lines look (withouts 1)) (more_in_range trials 1 k (k + 1) (omega arith))
        ∙ lines_append (flat_map trials (range_with_len 1 k)) behind
        ∙ ap (λ v. v ++ packet_lines look (withouts 1) behind) before
        ∙ ap (λ w. flat_map of_share (range_with_len 1 k) ++ packet_lines look w behind) (sym (same_without (k + 1) (omega arith) within))
        ∙ sym (more_in_range of_share 1 k (k + 1) (omega arith))

    lines_joined : (k : ℕ) → k ≤ shares → Lines k
    lines_joined zero within = refl
    lines_joined (suc k) within = subst Lines (add-one k) (lines_more k (omega arith) (lines_joined k (omega arith)))

  all_joined : HasPackets c campaign.choice packets → AreTrials n c campaign None (withouts 1) (flat_map trials (range_with_len 1 shares))
  all_joined has =
      let all = joined shares (omega arith) in
      let same : all.base ≡ has.0 = same_entries (plan_of c) has.0 all.base has.1 all.shows in
      let targets : List Target = chosen campaign.choice all.base in
      let count : length targets ≡ packets = ap (λ b. length (chosen campaign.choice b)) same ∙ sym has.2 in
      let few : length targets ≤ start shares packets shares = omega (arith, count, start_all shares packets some) in
      record {
        base = all.base;
        shows = all.shows;
        without_is = all.without_is;
        tried =
            subst (λ l. Tries c campaign (map One l) (flat_map trials (range_with_len 1 shares)) [])
            (take_all (start shares packets shares) targets few) all.tried;
        each = all.each;
      }

pub shares_are_the_sweep : SharesAreTheSweep
shares_are_the_sweep n c campaign shares packets withouts trials some has each = record {
  are_trials = all_joined n c campaign shares packets withouts trials some each has;
  lines =
      λ look. ap (λ v. head look ++ v) (lines_joined n c campaign shares packets withouts trials some each look shares (omega arith));
}
