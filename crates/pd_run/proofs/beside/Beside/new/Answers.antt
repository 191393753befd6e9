use Rattle.std.proofs.Common.{◌≡◌, ℕ, List, replicate, rules, ap, sym, ◌∙◌, slice_index, arith}
use Rattle.std.proofs.lemmas.List.{get_or-replicate}
use Rattle.pd_scenario.specs.Plan.{script_of}
use Rattle.pd_run.proofs.Until.{had_none}
use Rattle.pd_run.proofs.beside.Beside.new.Goals as goal

pub returns-clause-are : goal.returns-clause-are
returns-clause-are g c =
    let zeros : c.in_ok-vec.field-0.items ≡ replicate g.row.N 0 = search rules in
    let zeros_new : c.in_ok-vec-2.field-0.items ≡ replicate g.row.N 0 = search rules in
    record {
      same_scripts = λ p lt. (c.in_ok-same_scripts.ensures.same p (omega (arith, c.have_same_budget.ensures.old_plan.settings_count))).0;
      old_had = λ p lt _. ap (λ (l : List ℕ). slice_index l p) zeros
          ∙ get_or-replicate g.row.N p 0 0 (omega (arith, c.have_same_budget.ensures.old_plan.settings_count))
          ∙ sym (had_none (script_of c.args.old.now p));
      new_had = λ p lt _. ap (λ (l : List ℕ). slice_index l p) zeros_new
          ∙ get_or-replicate g.row.N p 0 0 (omega (arith, c.have_same_budget.ensures.new_plan.settings_count))
          ∙ sym (had_none (script_of c.args.plan.now p));
      same_budget = c.have_same_budget.ensures.same;
    }
