-- How far a sweep has come.
use Rattle.std.proofs.Common.{◌≡◌, ℕ, ◌+◌, Bool, true, false, cond, List, [], ◌∷◌, ◌++◌, length, take, drop, Option, refl, sym, ap}
use Rattle.std.proofs.Common.{zero, suc, ◌<◌, ◌^◌, map, Some, None, append_assoc, arith, ◌∙◌, subst, inl, inr}
use Rattle.std.specs.List.{AllByRecursion, filter, flat_map}
use Rattle.std.specs.Io.KnownBytes.{Appends}
use Rattle.std.proofs.KnownBytes.{Appends-trans}
use Rattle.std.proofs.lemmas.List.{append-nil, length-append}
use Rattle.std.proofs.lemmas.List.Concat.{flat_map-append}
use Rattle.std.proofs.lemmas.List.Elements.{filter-append}
use Rattle.pd_device.specs.Device.{WrotePart}
use Rattle.pd_device.proofs.DeviceLemmas.{WrotePart-after, WrotePart-longer}
use Rattle.pd_packet.proofs.Places.{all_append}
use Rattle.pd_port.specs.declared.entry.Entry.{Entry}
use Rattle.pd_run.specs.Shown.{Shows}
use Rattle.pd_scenario.specs.Plans.{plan_of}
use Rattle.pd_scenario.specs.Scenarios.{ScenarioData}
use Rattle.pd_sweep.specs.Choices.{chosen}
use Rattle.pd_sweep.specs.Summaries.{AreFindings}
use Rattle.pd_sweep.specs.Sums.{HaveRoom, noted_sums, no_sums, sums_of}
use Rattle.pd_sweep.specs.Sets.{AreOfRun, are_any}
use Rattle.pd_sweep.specs.Sweeps.{AreSome, BeganSweep, WroteSweep, lines_of, text_of}
use Rattle.pd_sweep.specs.Trials.{AreAhead, IsNext, IsTrial, LeadsTo, Tries}
use Rattle.pd_sweep.specs.declared.choice.Campaign.{Campaign}
use Rattle.pd_sweep.specs.declared.findings.Findings.{Findings}
use Rattle.pd_sweep.specs.declared.sums.Sums.{Sums}
use Rattle.pd_sweep.specs.declared.packets.Target.{Target}
use Rattle.pd_sweep.specs.declared.sets.Packets.{Packets}
use Rattle.pd_sweep.specs.declared.sets.Packets.TheVariants.{One}
use Rattle.pd_sweep.specs.declared.trial.Trial.{Trial}
use Rattle.pd_sweep.specs.Forms.{closing, head, is_shown, line_of, trial_text}
use Rattle.pd_sweep.specs.Parts.{part_of}
use Rattle.pd_sweep.specs.declared.form.Look.{Look}
use Rattle.pd_sweep.specs.declared.part.Part.{Part}
use Rattle.pd_sweep.proofs.SumLemmas.{have_room, sums_more, sums_none}
use Rattle.pd_sweep.proofs.TriesLemmas.{tries_one_more}

-- the trials that were made, whose lines were written, and their tally; these sets wait
pub record Progress (n : ℕ) (c : ScenarioData) (order : Campaign) (look : Look) (old : Findings) (start : List Packets)
    (waiting : List Packets) (left : ℕ) (sums : Sums) (a b : Option (List ℕ)) : Type 0 where
  pub trials : List Trial
  pub tried : Tries c order start trials waiting
  pub each : AllByRecursion (IsTrial n c order) trials
  pub known : AllByRecursion (AreOfRun n) waiting
  pub counted : length trials + left ≡ order.most
  pub sums_is : sums ≡ sums_of order.reserve old trials
  pub appends : Appends a b (lines_of look old trials)

-- what is written of one trial, where it is kept
one_line : (f : Trial → List ℕ) (x : Trial) (b : Bool) → flat_map f (cond b (x ∷ []) []) ≡ cond b (f x) []
one_line f x true = append-nil (f x)
one_line f x false = refl

-- what holds of each packet holds of each of a part, and of one at a place
pub all_first : (P : Target → Type 0) (k : ℕ) (ts : List Target) → AllByRecursion P ts → AllByRecursion P (take k ts)
all_first P zero ts h = tt
all_first P (suc k) [] h = tt
all_first P (suc k) (t ∷ ts) h = (h.0, all_first P k ts h.1)

all_behind : (P : Target → Type 0) (k : ℕ) (ts : List Target) → AllByRecursion P ts → AllByRecursion P (drop k ts)
all_behind P zero ts h = h
all_behind P (suc k) [] h = tt
all_behind P (suc k) (t ∷ ts) h = all_behind P k ts h.1

pub all_of_part : (P : Target → Type 0) (part : Option Part) (ts : List Target) → AllByRecursion P ts → AllByRecursion P (part_of part ts)
all_of_part P None ts h = h
all_of_part P (Some part) ts h = all_first P part.count (drop part.first ts) (all_behind P part.first ts h)

each_more : (P : Trial → Type 0) (xs : List Trial) (x : Trial) → AllByRecursion P xs → P x → AllByRecursion P (xs ++ x ∷ [])
each_more P [] x h p = (p, tt)
each_more P (y ∷ xs) x h p = (h.0, each_more P xs x h.1 p)

-- a text that was written whole
pub whole_part : (a b : Option (List ℕ)) (text : List ℕ) → Appends a b text → WrotePart a b text
whole_part a b text wrote = record { out = text; begins = ([], sym (append-nil text)); appends = wrote }

-- the next of the sets that wait, and the others
pub next_known : (n left : ℕ) (waiting rest : List Packets) (ps : Packets) → IsNext left waiting rest (Some ps)
    → AllByRecursion (AreOfRun n) waiting → AllByRecursion (AreOfRun n) (ps ∷ rest)
next_known n left waiting rest ps next known = subst (AllByRecursion (AreOfRun n)) next.1 known

module _ (n : ℕ) (c : ScenarioData) (order : Campaign) (look : Look) (old : Findings) (start : List Packets) where
  -- what stands before the first line
  pub progress_none : (waiting : List Packets) (sums : Sums) (a b : Option (List ℕ)) → waiting ≡ start →
      AllByRecursion (AreOfRun n) waiting → sums ≡ no_sums → Appends a b (head look) →
      Progress n c order look old start waiting order.most sums a b
  progress_none waiting sums a b are known e wrote = record {
    trials = [];
    tried = are;
    each = tt;
    known = known;
    counted = omega arith;
    sums_is = e ∙ sums_none order.reserve old;
    appends = rw (append-nil (head look)) wrote;
  }

  -- one more trial can be counted
  pub room : (waiting : List Packets) (left : ℕ) (sums : Sums) (a b : Option (List ℕ)) →
      Progress n c order look old start waiting left sums a b → 0 < left → order.most < 2 ^ 64 → HaveRoom sums
  room waiting left sums a b p some few =
      subst HaveRoom (sym p.sums_is) (have_room order.reserve old p.trials (omega (arith, p.counted, some, few)))

  lines_push : (trials : List Trial) (trial : Trial) →
      lines_of look old (trials ++ trial ∷ []) ≡ lines_of look old trials ++ line_of look old trial
  lines_push trials trial =
      let f : Trial → List ℕ = trial_text look.form old in
      let p : Trial → Bool = is_shown look old in
      ap (λ v. head look ++ v)
      (ap (flat_map f) (filter-append p trials (trial ∷ [])) ∙ flat_map-append f (filter p trials) (filter p (trial ∷ []))
      ∙ ap (λ v. flat_map f (filter p trials) ++ v) (one_line f trial (p trial)))
      ∙ sym (append_assoc (head look) (flat_map f (filter p trials)) (line_of look old trial))

  -- a set was next, and had its trial; what that leads to waits now
  pub progress_more : (waiting rest waiting' : List Packets) (left left' : ℕ) (sums sums' : Sums) (a b d : Option (List ℕ)) (ps : Packets)
      (trial : Trial) → Progress n c order look old start waiting left sums a b → IsNext left waiting rest (Some ps) →
      trial.packets ≡ ps → IsTrial n c order trial → AreAhead n c order trial rest waiting' → left ≡ left' + 1 →
      sums' ≡ noted_sums order.reserve old sums trial → Appends b d (line_of look old trial) →
      Progress n c order look old start waiting' left' sums' a d
  progress_more waiting rest waiting' left left' sums sums' a b d ps trial p next packets is ahead one_less noted wrote =
      let known : AllByRecursion (AreOfRun n) (ps ∷ rest) = subst (AllByRecursion (AreOfRun n)) next.1 p.known in
      let count = length-append p.trials (trial ∷ []) in
      record {
        trials = p.trials ++ trial ∷ [];
        tried =
            tries_one_more c order p.trials trial start rest ahead.more waiting' ps
            (subst (Tries c order start p.trials) next.1 p.tried) packets ahead.leads ahead.waiting_are;
        each = each_more (IsTrial n c order) p.trials trial p.each is;
        known = subst (AllByRecursion (AreOfRun n)) (sym ahead.waiting_are) (all_append (AreOfRun n) ahead.more rest ahead.known known.1);
        counted = omega (arith, p.counted, count, one_less);
        sums_is = noted ∙ ap (λ v. noted_sums order.reserve old v trial) p.sums_is ∙ sums_more order.reserve old p.trials trial;
        appends =
            rw (lines_push p.trials trial) (Appends-trans a b d (lines_of look old p.trials) (line_of look old trial) p.appends wrote);
      }

  module _ (piece : Option Part) (base : List (ℕ × Entry)) (shows : Shows (plan_of c) base) (old_is : AreFindings (plan_of c) base old)
      (start_is : start ≡ map One (part_of piece (chosen order.choice base))) where
    -- these trials are some of the sweep
    pub some_of : (trials : List Trial) (waiting : List Packets) → Tries c order start trials waiting →
        AllByRecursion (IsTrial n c order) trials → AreSome n c order piece old trials waiting
    some_of trials waiting tried each = record {
      base = base;
      shows = shows;
      without_is = old_is;
      tried = subst (λ l. Tries c order l trials waiting) start_is tried;
      each = each;
    }

    -- what was written of the lines of these trials
    pub began : (trials : List Trial) (waiting : List Packets) (a b : Option (List ℕ)) → Tries c order start trials waiting →
        AllByRecursion (IsTrial n c order) trials → WrotePart a b (text_of look order.reserve old trials waiting) →
        BeganSweep n c order piece look a b
    began trials waiting a b tried each part = record {
      without = old;
      trials = trials;
      left = waiting;
      are_trials = some_of trials waiting tried each;
      wrote = part;
    }

    -- what stands before the first line is written in part
    pub began_head : (a b : Option (List ℕ)) → WrotePart a b (head look) → BeganSweep n c order piece look a b
    began_head a b part =
        let none : List Trial = [] in
        began none start a b refl tt
        (WrotePart-longer a b (lines_of look old none) (closing look order.reserve (sums_of order.reserve old none) (are_any start))
        (rw (append-nil (head look)) part))

    pub began_so_far : (waiting : List Packets) (left : ℕ) (sums : Sums) (a b : Option (List ℕ)) →
        Progress n c order look old start waiting left sums a b → BeganSweep n c order piece look a b
    began_so_far waiting left sums a b p =
        began p.trials waiting a b p.tried p.each (record {
          out = lines_of look old p.trials;
          begins = (closing look order.reserve (sums_of order.reserve old p.trials) (are_any waiting), refl);
          appends = p.appends;
        })

    -- a line that is written in part, or whole
    pub began_torn : (waiting rest : List Packets) (left : ℕ) (sums : Sums) (a b d : Option (List ℕ)) (ps : Packets) (trial : Trial) →
        Progress n c order look old start waiting left sums a b → IsNext left waiting rest (Some ps) → trial.packets ≡ ps →
        IsTrial n c order trial → ((more : List Packets) × LeadsTo c order trial more) → WrotePart b d (line_of look old trial) →
        BeganSweep n c order piece look a d
    began_torn waiting rest left sums a b d ps trial p next packets is leads part =
        let trials : List Trial = p.trials ++ trial ∷ [] in
        let more : List Packets = leads.0 ++ rest in
        let all : WrotePart a d (lines_of look old trials) =
        rw (lines_push p.trials trial) (WrotePart-after a b d (lines_of look old p.trials) (line_of look old trial) p.appends part) in
        began trials more a d
        (tries_one_more c order p.trials trial start rest leads.0 more ps (subst (Tries c order start p.trials) next.1 p.tried) packets
        leads.1 refl)
        (each_more (IsTrial n c order) p.trials trial p.each is)
        (WrotePart-longer a d (lines_of look old trials) (closing look order.reserve (sums_of order.reserve old trials) (are_any more)) all)

    -- the summary that is written in part
    pub began_closing : (waiting : List Packets) (left : ℕ) (sums : Sums) (are_left : Bool) (a b d : Option (List ℕ)) →
        Progress n c order look old start waiting left sums a b → are_left ≡ are_any waiting →
        WrotePart b d (closing look order.reserve sums are_left) → BeganSweep n c order piece look a d
    began_closing waiting left sums are_left a b d p is part =
        began p.trials waiting a d p.tried p.each
        (WrotePart-after a b d (lines_of look old p.trials)
        (closing look order.reserve (sums_of order.reserve old p.trials) (are_any waiting)) p.appends
        (subst (λ t. WrotePart b d (closing look order.reserve t (are_any waiting))) p.sums_is
        (subst (λ l. WrotePart b d (closing look order.reserve sums l)) is part)))

    -- all, or as many as were to be tried
    pub wrote : (waiting rest : List Packets) (left : ℕ) (sums : Sums) (are_left : Bool) (a b d : Option (List ℕ)) →
        Progress n c order look old start waiting left sums a b → IsNext left waiting rest None → are_left ≡ are_any rest →
        Appends b d (closing look order.reserve sums are_left) → WroteSweep n c order piece look a d sums.all
    wrote waiting rest left sums are_left a b d p next is told =
        let same : rest ≡ waiting = next.0 in
        let told_so : Appends b d (closing look order.reserve (sums_of order.reserve old p.trials) (are_any waiting)) =
        subst (λ t. Appends b d (closing look order.reserve t (are_any waiting))) p.sums_is
        (subst (λ l. Appends b d (closing look order.reserve sums l)) (is ∙ ap are_any same) told) in
        record {
          without = old;
          trials = p.trials;
          left = waiting;
          are_trials = some_of p.trials waiting p.tried p.each;
          ends = elim next.1 [ inl none ↦ inr (omega (arith, p.counted, none)) | inr empty ↦ inl empty ];
          tally_is = ap (λ (v : Sums). v.all) p.sums_is;
          appends =
              Appends-trans a b d (lines_of look old p.trials)
              (closing look order.reserve (sums_of order.reserve old p.trials) (are_any waiting)) p.appends told_so;
        }
