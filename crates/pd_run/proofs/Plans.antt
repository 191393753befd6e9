-- A plan that is put together again from its parts, and one with another script of a port.
use Rattle.std.proofs.Common.{◌≡◌, ◌≢◌, ⊎_elim, ℕ, ◌+◌, ◌<◌, ◌≤◌, List, [], Vec, Global, Some, arith, get_or, length, map, set, sym}
use Rattle.std.proofs.Common.{slice_get, subst}
use Rattle.std.specs.Prelude.{Contains}
use Rattle.std.proofs.lemmas.Bool.{cases_eq}
use Rattle.std.proofs.lemmas.List.{get_or-set_other, get_or-set_same, length-set, map-set}
use Rattle.pd_setup.specs.Settings.{SettingsData}
use Rattle.pd_setup.specs.Events.{EventData}
use Rattle.pd_setup.specs.declared.event.Event.{Event}
use Rattle.pd_scenario.specs.declared.budget.BudgetChange.{BudgetChange}
use Rattle.pd_scenario.specs.Plan.{Plan, IsFollowedBy, IsPlan, IsScripted, force, script_of, told_at, with_script}

pub IsPlan-again : (n : ℕ) (plan : Plan) (settings : List SettingsData) (scripts : List (List EventData)) (budget : ℕ)
    (forces : List BudgetChange) (end : ℕ) →
    settings ≡ plan.settings → scripts ≡ plan.scripts → budget ≡ plan.budget → forces ≡ plan.forces → end ≡ plan.end → IsPlan n plan →
    IsPlan n (record { settings = settings; scripts = scripts; budget = budget; forces = forces; end = end })
IsPlan-again n plan settings scripts budget forces end s c b f e is =
    subst (IsPlan n) (λ i. record { settings = sym s i; scripts = sym c i; budget = sym b i; forces = sym f i; end = sym e i }) is

pub plan_again : (plan : Plan) (settings : List SettingsData) (scripts : List (List EventData)) (budget : ℕ) (forces : List BudgetChange)
    (end : ℕ) → settings ≡ plan.settings → scripts ≡ plan.scripts → budget ≡ plan.budget → forces ≡ plan.forces → end ≡ plan.end
    → record { settings = settings; scripts = scripts; budget = budget; forces = forces; end = end } ≡ plan
plan_again plan settings scripts budget forces end s c b f e =
    λ i. record { settings = s i; scripts = c i; budget = b i; forces = f i; end = e i }

-- the events of lists, with another list in the place of one
pub items_set : (lists : List (Vec Event Global)) (place : ℕ) (v : Vec Event Global)
    → map (λ (s : Vec Event Global). s.items) (set lists place v) ≡ set (map (λ (s : Vec Event Global). s.items) lists) place v.items
items_set lists place v = map-set (λ (s : Vec Event Global). s.items) lists place v

module _ (n : ℕ) (plan : Plan) (p : ℕ) (events : List EventData) (is : IsPlan n plan) (known : p < n)
    (its : IsScripted plan.forces events) where
  -- what each script of the plan keeps is kept by the new one, and by the others
  each_script : (P : List EventData → Type 0) → P events → (q : ℕ) → P (script_of plan q) → P (script_of (with_script plan p events) q)
  each_script P new q old =
      ⊎_elim
      (λ (same : p ≡ q).
      let inside : p < length plan.scripts = omega (arith, is.scripts_count) in
      subst (λ k. P (get_or (set plan.scripts p events) k [])) same
      (subst P (sym (get_or-set_same plan.scripts p events [] inside)) new))
      (λ (other : p ≢ q). subst P (sym (get_or-set_other plan.scripts p q events [] (λ e. other (sym e)))) old)
      (cases_eq p q)

  pub with_script_is : IsPlan n (with_script plan p events)
  unfolding force
  with_script_is = record {
    settings_count = is.settings_count;
    scripts_count = (let same = length-set plan.scripts p events in omega (arith, is.scripts_count));
    some_port = is.some_port;
    few_ports = is.few_ports;
    funded = is.funded;
    most_budget = is.most_budget;
    always_funded = is.always_funded;
    most_force = is.most_force;
    soon = is.soon;
    brief = λ q h. each_script (λ es. length es ≤ 1000000) its.brief q (is.brief q h);
    in_order = λ q.
        each_script (λ es. (i : ℕ) (e f : EventData) → slice_get es i ≡ Some e → slice_get es (i + 1) ≡ Some f → IsFollowedBy e f)
        its.in_order q (is.in_order q);
    told = λ q h.
        each_script (λ es. (change : BudgetChange) → Contains plan.forces change → Contains es (told_at change.at)) its.told q
        (is.told q h);
  }
