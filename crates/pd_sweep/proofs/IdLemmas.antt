-- Ids from one down.
use Rattle.std.proofs.Common.{◌≡◌, ℕ, zero, suc, ◌-◌, ◌<◌, List, Some, None, cond, true, false, refl, sym, ap, ◌∙◌, arith}
use Rattle.pd_scenario.specs.declared.event.ScenarioEvent.{ScenarioEvent}
use Rattle.pd_scenario.specs.Scenarios.{has_id}
use Rattle.pd_sweep.specs.Variants.{free_id}

-- an id that is taken
pub id_taken : (events : List ScenarioEvent) (id : ℕ) → 0 < id → has_id events id ≡ true → free_id events (id - 1) ≡ free_id events id
unfolding free_id
id_taken events zero some h = absurd (omega arith)
id_taken events (suc id) some h =
    let e : suc id - 1 ≡ id = omega arith in
    ap (free_id events) e ∙ sym (ap (λ b. cond b (free_id events id) (Some (suc id))) h)

-- an id that is free
pub id_free : (events : List ScenarioEvent) (id : ℕ) → 0 < id → has_id events id ≡ false → free_id events id ≡ Some id
unfolding free_id
id_free events zero some h = absurd (omega arith)
id_free events (suc id) some h = ap (λ b. cond b (free_id events id) (Some (suc id))) h

-- none is left
pub id_none : (events : List ScenarioEvent) (id : ℕ) → id ≡ 0 → None ≡ free_id events id
unfolding free_id
id_none events zero e = refl
id_none events (suc id) e = absurd (omega arith)
