-- One change more, and what stands and was measured.
use Rattle.std.proofs.Common.{◌≡◌, ◌≢◌, ℕ, ◌<◌, ◌≤◌, true, false, cond, List, [], ◌∷◌, ◌++◌, Option, None}
use Rattle.std.proofs.Common.{refl, sym, ap, ◌∙◌, arith, ⊎_elim}
use Rattle.std.specs.Prelude.{◌==◌, ◌&&◌, fold, nat_le, nat_lt, not}
use Rattle.std.specs.List.{AllByRecursion}
use Rattle.std.proofs.lemmas.Bool.{cases_eq, eq-eqb, ne_eqb}
use Rattle.std.proofs.lemmas.Bool.Decides.{nat_tests}
use Rattle.std.proofs.lemmas.List.Sums.{fold-append}
use Rattle.pd_objects.specs.declared.contract.Contract.{Contract}
use Rattle.pd_report.proofs.MarginLemmas.{all-append, all-mono}
use Rattle.pd_sweep.specs.declared.measure.Measure.{Measure}
use Rattle.pd_sweep.specs.declared.measure.Step.{Step}
use Rattle.pd_sweep.specs.declared.beside.Ledger.{Ledger}
use Rattle.pd_sweep.specs.Beside.{closed, measured, noted_new, noted_old, nothing_yet, stands_at, stepped}
use Rattle.pd_sweep.specs.Measures.{measure_by, power_of}
use Rattle.pd_sweep.specs.Words.{is_same}
use Rattle.pd_sweep.proofs.InstantLemmas.{instants-few, instants-more, instants-same, last_until-more, last_until-same}

-- ---- two contracts over time

abbrev Course : Type 0
Course = ℕ → Option Contract

pub measured-more : (f g : Course) (old new : Option Contract) (a c : ℕ) → a ≤ c → ((t : ℕ) → a ≤ t → t < c → f t ≡ old)
    → ((t : ℕ) → a ≤ t → t < c → g t ≡ new) → measure_by c f g ≡ measured (measure_by a f g) old new a c
unfolding measure_by
measured-more f g old new a c le olds news =
    let is_less = instants-more (λ t. nat_lt (power_of (g t)) (power_of (f t))) (nat_lt (power_of new) (power_of old)) a c le
    (λ t low high. ap (λ x. nat_lt (power_of x) (power_of (f t))) (news t low high)
    ∙ ap (λ x. nat_lt (power_of new) (power_of x)) (olds t low high)) in
    let is_more = instants-more (λ t. nat_lt (power_of (f t)) (power_of (g t))) (nat_lt (power_of old) (power_of new)) a c le
    (λ t low high. ap (λ x. nat_lt (power_of x) (power_of (g t))) (olds t low high)
    ∙ ap (λ x. nat_lt (power_of old) (power_of x)) (news t low high)) in
    let is_until = last_until-more (λ t. not (is_same (f t) (g t))) (not (is_same old new)) a c le
    (λ t low high. ap (λ x. not (is_same x (g t))) (olds t low high) ∙ ap (λ x. not (is_same old x)) (news t low high)) in
    λ i. record { less = is_less i; more = is_more i; until = is_until i }

pub measured-same : (f g f' g' : Course) (c : ℕ) → ((t : ℕ) → t < c → f t ≡ f' t) → ((t : ℕ) → t < c → g t ≡ g' t)
    → measure_by c f g ≡ measure_by c f' g'
unfolding measure_by
measured-same f g f' g' c olds news =
    let is_less = instants-same (λ t. nat_lt (power_of (g t)) (power_of (f t))) (λ t. nat_lt (power_of (g' t)) (power_of (f' t))) c
    (λ t high. ap (λ x. nat_lt (power_of x) (power_of (f t))) (news t high)
    ∙ ap (λ x. nat_lt (power_of (g' t)) (power_of x)) (olds t high)) in
    let is_more = instants-same (λ t. nat_lt (power_of (f t)) (power_of (g t))) (λ t. nat_lt (power_of (f' t)) (power_of (g' t))) c
    (λ t high. ap (λ x. nat_lt (power_of x) (power_of (g t))) (olds t high)
    ∙ ap (λ x. nat_lt (power_of (f' t)) (power_of x)) (news t high)) in
    let is_until = last_until-same (λ t. not (is_same (f t) (g t))) (λ t. not (is_same (f' t) (g' t))) c
    (λ t high. ap (λ x. not (is_same x (g t))) (olds t high) ∙ ap (λ x. not (is_same (f' t) x)) (news t high)) in
    λ i. record { less = is_less i; more = is_more i; until = is_until i }

pub measured-few : (f g : Course) (c : ℕ) → ((measure_by c f g).less ≤ c) × ((measure_by c f g).more ≤ c)
unfolding measure_by
measured-few f g c = (
  instants-few (λ t. nat_lt (power_of (g t)) (power_of (f t))) c,
  instants-few (λ t. nat_lt (power_of (f t)) (power_of (g t))) c,
)

-- ---- the changes of one port

module _ (port : ℕ) where
  -- what the last of them leaves
  abbrev pub later : Option Contract → Step → Option Contract
  later stood s = cond (s.port == port) s.left stood

  abbrev pub last_left : List Step → Option Contract
  last_left steps = fold later None steps

  -- the changes of the port are no later than a time
  abbrev pub NoneAfter : ℕ → List Step → Type 0
  NoneAfter t steps = AllByRecursion (λ s. s.port ≡ port → s.at ≤ t) steps

  step-by : (t : ℕ) (stood : Option Contract) (s : Step) → (s.port ≡ port → s.at ≤ t) → stepped port t stood s ≡ later stood s
  step-by t stood s by =
      ⊎_elim
      (λ (same : s.port ≡ port).
      let le : s.at ≤ t = by same in
      let test : nat_le s.at t ≡ true = grind (arith, nat_tests) in
      ap (λ b. cond (b && nat_le s.at t) s.left stood) (eq-eqb s.port port same) ∙ ap (λ b. cond b s.left stood) test
      ∙ sym (ap (λ b. cond b s.left stood) (eq-eqb s.port port same)))
      (λ (other : s.port ≢ port).
      ap (λ b. cond (b && nat_le s.at t) s.left stood) (ne_eqb s.port port other)
      ∙ sym (ap (λ b. cond b s.left stood) (ne_eqb s.port port other)))
      (cases_eq s.port port)

  steps-by : (t : ℕ) (stood : Option Contract) (steps : List Step) → NoneAfter t steps
      → fold (stepped port t) stood steps ≡ fold later stood steps
  steps-by t stood [] by = refl
  steps-by t stood (s ∷ ss) by =
      ap (λ x. fold (stepped port t) x ss) (step-by t stood s by.0) ∙ steps-by t (later stood s) ss by.1

  -- a change of another port, or a later one
  unmoved : (t : ℕ) (stood : Option Contract) (s : Step) → (s.port ≡ port → t < s.at) → stepped port t stood s ≡ stood
  unmoved t stood s soon =
      ⊎_elim
      (λ (same : s.port ≡ port).
      let lt : t < s.at = soon same in
      let test : nat_le s.at t ≡ false = grind (arith, nat_tests) in
      ap (λ b. cond (b && nat_le s.at t) s.left stood) (eq-eqb s.port port same) ∙ ap (λ b. cond b s.left stood) test)
      (λ (other : s.port ≢ port). ap (λ b. cond (b && nat_le s.at t) s.left stood) (ne_eqb s.port port other))
      (cases_eq s.port port)

  stands-same : (steps : List Step) (s : Step) (t : ℕ) → (s.port ≡ port → t < s.at)
      → stands_at steps port t ≡ stands_at (steps ++ s ∷ []) port t
  stands-same steps s t soon =
      sym (fold-append (stepped port t) None steps (s ∷ []) ∙ unmoved t (stands_at steps port t) s soon)

  -- ---- what a ledger keeps

  pub record Keeps (xs ys : List Step) (l : Ledger) : Type 0 where
    pub old_is : l.old ≡ last_left xs
    pub new_is : l.new ≡ last_left ys
    pub past_old : NoneAfter l.since xs
    pub past_new : NoneAfter l.since ys
    pub measure_is : l.measure ≡ measure_by l.since (stands_at xs port) (stands_at ys port)

  pub keeps_none : Keeps [] [] nothing_yet
  unfolding measure_by
  keeps_none = record { old_is = refl; new_is = refl; past_old = tt; past_new = tt; measure_is = refl }

  later_all : (a c : ℕ) (steps : List Step) → a ≤ c → NoneAfter a steps → NoneAfter c steps
  later_all a c steps le past =
      all-mono (λ (s : Step). s.port ≡ port → s.at ≤ a) (λ s. s.port ≡ port → s.at ≤ c)
      (λ s by same. let b : s.at ≤ a = by same in omega arith) steps past

  module _ (xs ys : List Step) (l : Ledger) (k : Keeps xs ys l) where
    pub keeps_few : (l.measure.less ≤ l.since) × (l.measure.more ≤ l.since)
    keeps_few =
        let few = measured-few (stands_at xs port) (stands_at ys port) l.since in
        let P : Measure → Type 0 = λ m. (m.less ≤ l.since) × (m.more ≤ l.since) in
        rw k.measure_is few

    pub keeps_closed : (t : ℕ) → l.since ≤ t → closed l t ≡ measure_by t (stands_at xs port) (stands_at ys port)
    keeps_closed t le =
        let olds : (u : ℕ) → l.since ≤ u → u < t → stands_at xs port u ≡ l.old =
        λ u low high. steps-by u None xs (later_all l.since u xs low k.past_old) ∙ sym k.old_is in
        let news : (u : ℕ) → l.since ≤ u → u < t → stands_at ys port u ≡ l.new =
        λ u low high. steps-by u None ys (later_all l.since u ys low k.past_new) ∙ sym k.new_is in
        ap (λ m. measured m l.old l.new l.since t) k.measure_is
        ∙ sym (measured-more (stands_at xs port) (stands_at ys port) l.old l.new l.since t le olds news)

    module _ (s : Step) where
      left_here : (steps : List Step) → s.port ≡ port → s.left ≡ last_left (steps ++ s ∷ [])
      left_here steps same =
          sym (fold-append later None steps (s ∷ []) ∙ ap (λ b. cond b s.left (last_left steps)) (eq-eqb s.port port same))

      left_other : (steps : List Step) → s.port ≢ port → last_left steps ≡ last_left (steps ++ s ∷ [])
      left_other steps other =
          sym (fold-append later None steps (s ∷ []) ∙ ap (λ b. cond b s.left (last_left steps)) (ne_eqb s.port port other))

      more_all : (steps : List Step) → s.port ≡ port → l.since ≤ s.at → NoneAfter l.since steps → NoneAfter s.at (steps ++ s ∷ [])
      more_all steps same le past =
          all-append (λ (x : Step). x.port ≡ port → x.at ≤ s.at) steps (s ∷ []) (later_all l.since s.at steps le past)
          ((λ e. omega arith), tt)

      other_all : (steps : List Step) → s.port ≢ port → NoneAfter l.since steps → NoneAfter l.since (steps ++ s ∷ [])
      other_all steps other past =
          all-append (λ (x : Step). x.port ≡ port → x.at ≤ l.since) steps (s ∷ []) past ((λ e. absurd (other e)), tt)

      pub keeps_old : s.port ≡ port → l.since ≤ s.at → Keeps (xs ++ s ∷ []) ys (noted_old l s)
      keeps_old same le = record {
        old_is = left_here xs same;
        new_is = k.new_is;
        past_old = more_all xs same le k.past_old;
        past_new = later_all l.since s.at ys le k.past_new;
        measure_is =
            keeps_closed s.at le
            ∙ measured-same (stands_at xs port) (stands_at ys port) (stands_at (xs ++ s ∷ []) port) (stands_at ys port) s.at
            (λ t soon. stands-same xs s t (λ e. soon)) (λ t soon. refl);
      }

      pub keeps_new : s.port ≡ port → l.since ≤ s.at → Keeps xs (ys ++ s ∷ []) (noted_new l s)
      keeps_new same le = record {
        old_is = k.old_is;
        new_is = left_here ys same;
        past_old = later_all l.since s.at xs le k.past_old;
        past_new = more_all ys same le k.past_new;
        measure_is =
            keeps_closed s.at le
            ∙ measured-same (stands_at xs port) (stands_at ys port) (stands_at xs port) (stands_at (ys ++ s ∷ []) port) s.at
            (λ t soon. refl) (λ t soon. stands-same ys s t (λ e. soon));
      }

      pub keeps_other_old : s.port ≢ port → Keeps (xs ++ s ∷ []) ys l
      keeps_other_old other = record {
        old_is = k.old_is ∙ left_other xs other;
        new_is = k.new_is;
        past_old = other_all xs other k.past_old;
        past_new = k.past_new;
        measure_is =
            k.measure_is
            ∙ measured-same (stands_at xs port) (stands_at ys port) (stands_at (xs ++ s ∷ []) port) (stands_at ys port) l.since
            (λ t soon. stands-same xs s t (λ e. absurd (other e))) (λ t soon. refl);
      }

      pub keeps_other_new : s.port ≢ port → Keeps xs (ys ++ s ∷ []) l
      keeps_other_new other = record {
        old_is = k.old_is;
        new_is = k.new_is ∙ left_other ys other;
        past_old = k.past_old;
        past_new = other_all ys other k.past_new;
        measure_is =
            k.measure_is
            ∙ measured-same (stands_at xs port) (stands_at ys port) (stands_at xs port) (stands_at (ys ++ s ∷ []) port) l.since
            (λ t soon. refl) (λ t soon. stands-same ys s t (λ e. absurd (other e)));
      }
