-- Trials in turn, of sets that wait.
use Rattle.std.proofs.Common.{◌≡◌, ℕ, ◌+◌, ◌≤◌, Bool, true, false, List, [], ◌∷◌, ◌++◌, length, map, refl, ap, ◌∙◌, subst, arith}
use Rattle.std.proofs.Common.{append_assoc}
use Rattle.std.specs.Prelude.{◌&&◌, MatchBool, min, nat_lt}
use Rattle.std.proofs.lemmas.Bool.{and_parts}
use Rattle.std.proofs.lemmas.Bool.Decides.{nat_tests}
use Rattle.pd_port.specs.declared.entry.Entry.{Entry}
use Rattle.pd_run.specs.Shown.{Shows}
use Rattle.pd_scenario.specs.Plan.{Plan}
use Rattle.pd_scenario.specs.Scenarios.{ScenarioData}
use Rattle.pd_sweep.specs.Sets.{count_of, further, last_of, members}
use Rattle.pd_sweep.specs.Trials.{IsRunOf, IsTrial, LeadsTo, Tries, goes_on, has_run, plan_with}
use Rattle.pd_sweep.specs.declared.choice.Campaign.{Campaign}
use Rattle.pd_sweep.specs.declared.sets.Packets.{Packets}
use Rattle.pd_sweep.specs.declared.sets.Packets.TheVariants.{One, Two, Three}
use Rattle.pd_sweep.specs.declared.packets.Target.{Target}
use Rattle.pd_sweep.specs.declared.trial.Outcome.{Outcome}
use Rattle.pd_sweep.specs.declared.trial.Outcome.TheVariants.{Ran, Missed, Disturbed}
use Rattle.pd_sweep.specs.declared.trial.Trial.{Trial}

module _ (c : ScenarioData) (campaign : Campaign) where
  -- more sets wait behind
  pub more_wait : (more : List Packets) (trials : List Trial) (waiting left : List Packets) → Tries c campaign waiting trials left
      → Tries c campaign (waiting ++ more) trials (left ++ more)
  more_wait more [] waiting left h = ap (λ l. l ++ more) h
  more_wait more (trial ∷ trials) [] left h = absurd h
  more_wait more (trial ∷ trials) (ps ∷ waiting) left h =
      let led : List Packets = h.1.0 in (
        h.0,
        (
          led,
          (
            h.1.1.0,
            subst (λ l. Tries c campaign l trials (left ++ more)) (append_assoc led waiting more)
                (more_wait more trials (led ++ waiting) left h.1.1.1),
          ),
        ),
      )

  -- one trial after another
  pub tries_then : (trials others : List Trial) (waiting between left : List Packets) → Tries c campaign waiting trials between
      → Tries c campaign between others left → Tries c campaign waiting (trials ++ others) left
  tries_then [] others waiting between left h k = subst (λ l. Tries c campaign l others left) h k
  tries_then (trial ∷ trials) others [] between left h k = absurd h
  tries_then (trial ∷ trials) others (ps ∷ waiting) between left h k =
      (h.0, (h.1.0, (h.1.1.0, tries_then trials others (h.1.0 ++ waiting) between left h.1.1.1 k)))

  pub tries_both : (trials others : List Trial) (waiting more : List Packets) → Tries c campaign waiting trials []
      → Tries c campaign more others [] → Tries c campaign (waiting ++ more) (trials ++ others) []
  tries_both trials others waiting more h k = tries_then trials others (waiting ++ more) more [] (more_wait more trials waiting [] h) k

  pub tries_one_more : (trials : List Trial) (trial : Trial) (waiting rest more left : List Packets) (ps : Packets)
      → Tries c campaign waiting trials (ps ∷ rest) → trial.packets ≡ ps → LeadsTo c campaign trial more → left ≡ more ++ rest
      → Tries c campaign waiting (trials ++ trial ∷ []) left
  tries_one_more trials trial waiting rest more left ps h is leads are =
      tries_then trials (trial ∷ []) waiting (ps ∷ rest) left h (is, (more, (leads, are)))

  -- each set that waits has a trial, or is left
  pub as_many : (trials : List Trial) (waiting left : List Packets) → Tries c campaign waiting trials left
      → length waiting ≤ length trials + length left
  as_many [] waiting left h = let same = ap (λ (l : List Packets). length l) h in omega arith
  as_many (trial ∷ trials) [] left h = absurd h
  as_many (trial ∷ trials) (ps ∷ waiting) left h =
      let rest = as_many trials (h.1.0 ++ waiting) left h.1.1.1 in
      let longer = back_is_shorter h.1.0 waiting in
      omega arith
    where
      back_is_shorter : (xs ys : List Packets) → length ys ≤ length (xs ++ ys)
      back_is_shorter [] ys = omega arith
      back_is_shorter (x ∷ xs) ys = let rest = back_is_shorter xs ys in omega arith

  -- ---- packets are lost alone

  some_packets : (ps : Packets) → 1 ≤ count_of ps
  some_packets (One a) = omega arith
  some_packets (Two a b) = omega arith
  some_packets (Three a b d) = omega arith

  goes_not_on : campaign.any ≤ 1 → (trial : Trial) → goes_on campaign trial ≡ false
  goes_not_on few trial = by_run (has_run trial.outcome)
    where
      not_less : nat_lt (count_of trial.packets) (min 3 campaign.any) ≡ false
      not_less = let some = some_packets trial.packets in grind (arith, nat_tests)

      by_run : (b : Bool) → (b && nat_lt (count_of trial.packets) (min 3 campaign.any)) ≡ false
      by_run true = not_less
      by_run false = refl

  leads_nowhere : campaign.any ≤ 1 → (trial : Trial) (more : List Packets) → LeadsTo c campaign trial more → more ≡ []
  leads_nowhere few trial more h =
      subst (λ b. MatchBool b
      ((moves : List (ℕ × Entry)) × Shows (plan_with c campaign trial.packets) moves × (more ≡ further campaign trial.packets moves))
      (more ≡ [])) (goes_not_on few trial) h

  pub alone_in_turn : campaign.any ≤ 1 → (trials : List Trial) (waiting left : List Packets) → Tries c campaign waiting trials left
      → map (λ (trial : Trial). trial.packets) trials ++ left ≡ waiting
  alone_in_turn few [] waiting left h = h
  alone_in_turn few (trial ∷ trials) [] left h = absurd h
  alone_in_turn few (trial ∷ trials) (ps ∷ waiting) left h =
      let none : h.1.0 ≡ [] = leads_nowhere few trial h.1.0 h.1.1.0 in
      ap (λ p. p ∷ (map (λ (t : Trial). t.packets) trials ++ left)) h.0
      ∙ ap (λ l. ps ∷ l)
      (alone_in_turn few trials (h.1.0 ++ waiting) left h.1.1.1 ∙ ap (λ l. l ++ waiting) none)

  -- ---- a trial leads somewhere

  shows_of : (plan : Plan) (ts : List Target) (o : Outcome) (b : Bool) → MatchBool b (o ≡ Disturbed) (IsRunOf c plan ts o)
      → has_run o ≡ true → (moves : List (ℕ × Entry)) × Shows plan moves
  shows_of plan ts (Ran effect) true is h = absurd (cc)
  shows_of plan ts (Ran effect) false is h = (is.moves, is.shows)
  shows_of plan ts Missed b is h = absurd (cc)
  shows_of plan ts Disturbed b is h = absurd (cc)

  leads_if : (trial : Trial) (b : Bool) → goes_on campaign trial ≡ b
      → MatchBool (last_of trial.packets).disturbed (trial.outcome ≡ Disturbed)
      (IsRunOf c (plan_with c campaign trial.packets) (members trial.packets) trial.outcome)
      → (more : List Packets) × MatchBool b
      ((moves : List (ℕ × Entry)) × Shows (plan_with c campaign trial.packets) moves × (more ≡ further campaign trial.packets moves))
      (more ≡ [])
  leads_if trial true e is =
      let (run, few) = and_parts (has_run trial.outcome) (nat_lt (count_of trial.packets) (min 3 campaign.any)) e in
      let there =
      shows_of (plan_with c campaign trial.packets) (members trial.packets) trial.outcome (last_of trial.packets).disturbed is run in
      (further campaign trial.packets there.0, (there.0, there.1, refl))
  leads_if trial false e is = ([], refl)

  pub leads_somewhere : (n : ℕ) (trial : Trial) → IsTrial n c campaign trial → (more : List Packets) × LeadsTo c campaign trial more
  leads_somewhere n trial is = leads_if trial (goes_on campaign trial) refl is
