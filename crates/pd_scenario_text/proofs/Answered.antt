-- The refusal that is answered is the least that applies, and what is accepted is valid.
use Rattle.std.proofs.Common.{◌≡◌, ℕ, ◌≤◌, ◌⊎◌, ◌↔◌, false, List, refl, sym, ap, ◌∙◌, inl, inr}
use Rattle.std.proofs.Common.{Some, None, Ok, Err}
use Rattle.std.specs.Prelude.{Option, Result}
use Rattle.std.proofs.lemmas.Bool.{false≢true}
use Rattle.toml.specs.Data.{Members}
use Rattle.pd_scenario.specs.Scenarios.{ScenarioData, IsValid}
use Rattle.pd_scenario.proofs.First.{IsIn, IsFirst, least, found, passed_all, none_found}
use Rattle.pd_scenario_tables.specs.declared.fault.ScenarioFault.{ScenarioFault}
use Rattle.pd_scenario_tables.specs.declared.fault.ScenarioFault.TheVariants.{Toml, UnknownKey, WrongType, MissingKey, Range, Name}
use Rattle.pd_scenario_tables.specs.declared.fault.ScenarioFault.TheVariants.{Duplicate, Supplies, Floors, UnknownName, Limit, Memory}
use Rattle.pd_scenario_tables.specs.Numbers.{number_of}
use Rattle.pd_scenario_text.specs.FileTables.{Tables, tables_of, scenario_of}
use Rattle.pd_scenario_text.specs.Refusals.{applies, refusals, refusal}
use Rattle.pd_scenario_text.specs.Reading.{answered, reading, Answers, IsTextOf, Reads}
use Rattle.pd_scenario_text.specs.Laws.{IsLeast}
use Rattle.pd_scenario_text.proofs.Decided.{Clean, Later, Last, same_answer, same_valid}
use Rattle.pd_scenario_text.proofs.Valid.{valid}

-- ---- an answer over the tables is one over the text

pub read_answer : (ports : ℕ) (text : List ℕ) (t : Members) (answer : Result ScenarioData ScenarioFault) → IsTextOf text t
    → (reading ports t ≡ Err Toml → ⊥) → Answers answer (reading ports t) → Reads ports text answer
read_answer ports text t (Ok c) is refused h = (t, is, h)
read_answer ports text t (Err Toml) is refused h = absurd (refused h)
read_answer ports text t (Err UnknownKey) is refused h = (t, is, h)
read_answer ports text t (Err WrongType) is refused h = (t, is, h)
read_answer ports text t (Err MissingKey) is refused h = (t, is, h)
read_answer ports text t (Err Range) is refused h = (t, is, h)
read_answer ports text t (Err Name) is refused h = (t, is, h)
read_answer ports text t (Err Duplicate) is refused h = (t, is, h)
read_answer ports text t (Err Supplies) is refused h = (t, is, h)
read_answer ports text t (Err Floors) is refused h = (t, is, h)
read_answer ports text t (Err UnknownName) is refused h = (t, is, h)
read_answer ports text t (Err Limit) is refused h = (t, is, h)
read_answer ports text t (Err Memory) is refused h = tt

-- ---- the least

refused_for : (o : Option ScenarioFault) (c : ScenarioData) (fault : ScenarioFault) → answered o c ≡ Err fault → o ≡ Some fault
refused_for None c fault h = absurd (cc)
refused_for (Some first) c fault h = let same : first ≡ fault = cc in ap (λ (f : ScenarioFault). Some f) same

listed : (ports : ℕ) (d : Tables) (fault : ScenarioFault) → (applies fault ports d ≡ false) ⊎ IsIn fault refusals
listed ports d Toml = inl refl
listed ports d UnknownKey = inr (inl refl)
listed ports d WrongType = inr (inr (inl refl))
listed ports d MissingKey = inr (inr (inr (inl refl)))
listed ports d Range = inr (inr (inr (inr (inl refl))))
listed ports d Name = inr (inr (inr (inr (inr (inl refl)))))
listed ports d Duplicate = inr (inr (inr (inr (inr (inr (inl refl))))))
listed ports d Supplies = inr (inr (inr (inr (inr (inr (inr (inl refl)))))))
listed ports d Floors = inr (inr (inr (inr (inr (inr (inr (inr (inl refl))))))))
listed ports d UnknownName = inr (inr (inr (inr (inr (inr (inr (inr (inr (inl refl)))))))))
listed ports d Limit = inr (inr (inr (inr (inr (inr (inr (inr (inr (inr (inl refl))))))))))
listed ports d Memory = inl refl

refused_first : (ports : ℕ) (d : Tables) (fault : ScenarioFault) → IsFirst number_of (λ f. applies f ports d) fault
    → refusal ports d ≡ Some fault
refused_first ports d fault first =
    elim (listed ports d fault) [
      | inl passes ↦ absurd (false≢true (sym passes ∙ first.0))
      | inr there ↦ found number_of (λ f. applies f ports d) refusals fault refl there first
    ]

pub least_refusal : (ports : ℕ) (t : Members) (fault : ScenarioFault) → (reading ports t ≡ Err fault) ↔ IsLeast fault ports (tables_of t)
least_refusal ports t fault = (
  λ h.
      let d = tables_of t in
      let both = least number_of (λ f. applies f ports d) refusals fault refl (listed ports d)
      (refused_for (refusal ports d) (scenario_of d) fault h) in
      record { holds = both.0; lesser = both.1 },
  λ h. ap (λ (o : Option ScenarioFault). answered o (scenario_of (tables_of t)))
      (refused_first ports (tables_of t) fault (h.holds, h.lesser)),
)

-- ---- accepted

none_of : (ports : ℕ) (d : Tables) → refusal ports d ≡ None → (fault : ScenarioFault) → applies fault ports d ≡ false
none_of ports d none fault =
    elim (listed ports d fault) [
      | inl passes ↦ passes
      | inr there ↦ passed_all (λ f. applies f ports d) refusals fault none there
    ]

none_applies : (o : Option ScenarioFault) (c k : ScenarioData) → answered o c ≡ Ok k → (o ≡ None) × (c ≡ k)
none_applies None c k h = (refl, cc)
none_applies (Some fault) c k h = absurd (cc)

pub accepted_exactly : (ports : ℕ) (t : Members) (c : ScenarioData)
    → (reading ports t ≡ Ok c) ↔ ((scenario_of (tables_of t) ≡ c) × ((fault : ScenarioFault) → applies fault ports (tables_of t) ≡ false))
accepted_exactly ports t c = (
  λ h. let both = none_applies (refusal ports (tables_of t)) (scenario_of (tables_of t)) c h in
      (both.1, none_of ports (tables_of t) both.0),
  λ both. same_answer (refusal ports (tables_of t)) (scenario_of (tables_of t)) c
      (none_found (λ f. applies f ports (tables_of t)) refusals both.1) both.0,
)

pub accepted_is_valid : (ports : ℕ) (t : Members) (c : ScenarioData) → 1 ≤ ports → ports ≤ 8 → reading ports t ≡ Ok c → IsValid ports c
accepted_is_valid ports t c some few h =
    let d = tables_of t in
    let both = none_applies (refusal ports d) (scenario_of d) c h in
    let none = none_of ports d both.0 in
    let tables : Clean ports d = record {
      keys = none UnknownKey;
      types = none WrongType;
      complete = none MissingKey;
      ranged = none Range;
      named = none Name;
    } in
    let later : Later ports d = record { tables = tables; single = none Duplicate; supplied = none Supplies } in
    let last : Last ports d = record { later = later; funded = none Floors; known = none UnknownName } in
    same_valid ports (scenario_of d) c both.1 (valid ports d some few last (none Limit))

-- a file of tables is never answered to be no TOML
pub not_toml : (ports : ℕ) (t : Members) → reading ports t ≡ Err Toml → ⊥
not_toml ports t h = false≢true ((least_refusal ports t Toml).0 h).holds
