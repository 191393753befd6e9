-- A text has one answer, and a refusal one number.
use Rattle.std.proofs.Common.{◌≡◌, ℕ, ◌==◌, ◌⊎◌, cond, List, refl, sym, ap, ◌∙◌, inl, inr, Err}
use Rattle.std.specs.Prelude.{Result}
use Rattle.toml.specs.Data.{Members}
use Rattle.pd_scenario.specs.Scenarios.{ScenarioData}
use Rattle.pd_scenario_tables.specs.declared.fault.ScenarioFault.{ScenarioFault}
use Rattle.pd_scenario_tables.specs.declared.fault.ScenarioFault.TheVariants.{Toml, UnknownKey, WrongType, MissingKey, Range, Name}
use Rattle.pd_scenario_tables.specs.declared.fault.ScenarioFault.TheVariants.{Duplicate, Supplies, Floors, UnknownName, Limit, Memory}
use Rattle.pd_scenario_tables.specs.Numbers.{number_of}
use Rattle.pd_scenario_tables.specs.Ports.{counted}
use Rattle.pd_scenario_text.specs.Reading.{IsTextOf, reading, Reads, Counts}

-- ---- one answer

-- how an answer to a text came about, where a table is answered by a function
abbrev Told : {A : Type 0} → (Members → Result A ScenarioFault) → List ℕ → Result A ScenarioFault → Type 0
Told f text answer =
    (answer ≡ Err Memory)
    ⊎ (((answer ≡ Err Toml) × ((t : Members) → IsTextOf text t → ⊥)) ⊎ ((t : Members) × IsTextOf text t × (f t ≡ answer)))

one_table : (text : List ℕ) (s t : Members) → IsTextOf text s → IsTextOf text t → s ≡ t
one_table text s t a b =
    let p = a.parsed in
    let q = b.parsed in
    cc

one : {A : Type 0} (f : Members → Result A ScenarioFault) (text : List ℕ) (a b : Result A ScenarioFault) → Told f text a → Told f text b
    → (a ≡ b) ⊎ ((a ≡ Err Memory) ⊎ (b ≡ Err Memory))
one f text a b x y =
    elim x [
      | inl memory ↦ inr (inl memory)
      | inr x' ↦
          elim y [
            | inl memory ↦ inr (inr memory)
            | inr y' ↦
                elim x' [
                  | inl no_table ↦
                      elim y' [
                        | inl no_other ↦ inl (no_table.0 ∙ sym no_other.0)
                        | inr other ↦ absurd (no_table.1 other.0 other.1)
                      ]
                  | inr some_table ↦
                      elim y' [
                        | inl no_other ↦ absurd (no_other.1 some_table.0 some_table.1)
                        | inr other ↦ inl (sym some_table.2 ∙ ap f (one_table text some_table.0 other.0 some_table.1 other.1) ∙ other.2)
                      ]
                ]
          ]
    ]

told_reading : (ports : ℕ) (text : List ℕ) (a : Result ScenarioData ScenarioFault) → Reads ports text a → Told (reading ports) text a
told_reading ports text (Err Memory) h = inl refl
told_reading ports text (Err Toml) h = inr (inl (refl, h))
told_reading ports text a h = inr (inr h)

told_count : (text : List ℕ) (a : Result ℕ ScenarioFault) → Counts text a → Told counted text a
told_count text (Err Memory) h = inl refl
told_count text (Err Toml) h = inr (inl (refl, h))
told_count text a h = inr (inr h)

pub one_answer : (ports : ℕ) (text : List ℕ) (a b : Result ScenarioData ScenarioFault) → Reads ports text a → Reads ports text b
    → (a ≡ b) ⊎ ((a ≡ Err Memory) ⊎ (b ≡ Err Memory))
one_answer ports text a b x y = one (reading ports) text a b (told_reading ports text a x) (told_reading ports text b y)

pub one_count : (text : List ℕ) (a b : Result ℕ ScenarioFault) → Counts text a → Counts text b
    → (a ≡ b) ⊎ ((a ≡ Err Memory) ⊎ (b ≡ Err Memory))
one_count text a b x y = one counted text a b (told_count text a x) (told_count text b y)

-- ---- one number

of_number : ℕ → ScenarioFault
of_number n =
    cond (n == 1) Toml
    (cond (n == 2) UnknownKey
    (cond (n == 3) WrongType
    (cond (n == 4) MissingKey
    (cond (n == 5) Range
    (cond (n == 6) Name
    (cond (n == 7) Duplicate
    (cond (n == 8) Supplies (cond (n == 9) Floors (cond (n == 10) UnknownName (cond (n == 11) Limit Memory))))))))))

back : (fault : ScenarioFault) → of_number (number_of fault) ≡ fault
unfolding of_number
back Toml = refl
back UnknownKey = refl
back WrongType = refl
back MissingKey = refl
back Range = refl
back Name = refl
back Duplicate = refl
back Supplies = refl
back Floors = refl
back UnknownName = refl
back Limit = refl
back Memory = refl

pub numbers_differ : (a b : ScenarioFault) → number_of a ≡ number_of b → a ≡ b
numbers_differ a b same = sym (back a) ∙ ap of_number same ∙ back b
