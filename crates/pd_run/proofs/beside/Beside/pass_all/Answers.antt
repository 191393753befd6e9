use Rattle.std.proofs.Common.{◌≡◌, ℕ, ◌+◌, ◌<◌, Bool, true, false, ◌&&◌, List, length, ap, sym, ◌∙◌, subst, slice_index_or, arith}
use Rattle.std.proofs.lemmas.List.{get_or_read}
use Rattle.std.specs.Bool.{Decides}
use Rattle.pd_scenario.specs.Plan.{script_of}
use Rattle.pd_run.specs.UpTo.{events_in}
use Rattle.pd_run.specs.Beside.{BesideData}
use Rattle.pd_run.proofs.Agree.{same_ports, PassOne, passed_by, counted_on}
use Rattle.pd_run.proofs.beside.Beside.pass_all.Goals as goal
use Rattle.pd_run.proofs.beside.Beside.pass_all.Goals.{then-all, else-all, then-index, else-index}

pub loop-port-preserved : goal.loop-port-preserved
loop-port-preserved g c =
    let i = c.loop-port.invariant in
    let from = c.args.self.now.at in
    let to = c.args.to in
    let n = c.loop-port.port in
    let a = c.args.old.now in
    let b = c.args.plan.now in
    let s : BesideData = c.loop-port.self in
    let both : c.if-all.all ≡ (c.loop-port.all && c.if-index.same) =
    elim c.if-all.branch [
      | then-all w ↦ w.all-is ∙ sym (ap (λ (x : Bool). x && c.if-index.same) w.if-all.true)
      | else-all w ↦ w.all-is ∙ w.if-all.false ∙ sym (ap (λ (x : Bool). x && c.if-index.same) w.if-all.false)
    ] in
    let read = subst (λ (x : BesideData). c.index.result.now ≡ slice_index_or x.same_scripts n c.index.result.now) c.self.view_is
    c.index.ensures in
    let count = subst (λ (x : BesideData). length x.same_scripts ≡ g.row.N) c.self.view_is c.self.invariant.scripts_count in
    let old_count = subst (λ (x : BesideData). length x.old_had ≡ g.row.N) c.self.view_is c.self.invariant.old_count in
    let new_count = subst (λ (x : BesideData). length x.new_had ≡ g.row.N) c.self.view_is c.self.invariant.new_count in
    let within = c.loop-port-test.true in
    let known = get_or_read s.same_scripts n c.index.result.now (omega (arith, count, within)) read false in
    let one : PassOne n g.row.N from to a b s c.if-index.self c.if-index.same =
    elim c.if-index.branch [
      | then-index w ↦
          let same : slice_index_or s.same_scripts n false ≡ true = sym known ∙ w.if-index.true in
          let script = c.requires.are.same_scripts n (omega (arith, within, c.end.ensures.is_plan.settings_count))
          (subst (λ (l : List Bool). slice_index_or l n false ≡ true) i.scripts same) in
          subst (λ t. PassOne n g.row.N from to a b s t c.if-index.same) (sym w.self-is)
          (subst (λ x. PassOne n g.row.N from to a b s s x) (sym (w.same-is ∙ w.if-index.true))
          (passed_by n g.row.N from to a b s same script i.passed))
      | else-index w ↦
          let same = subst (λ t. Decides w.pass-same.result (events_in t to (script_of a n) ≡ events_in t to (script_of b n))) i.at
          w.pass-same.ensures.same in
          subst (λ t. PassOne n g.row.N from to a b s t c.if-index.same) (sym (w.self-is ∙ w.pass-same.ensures.passed))
          (subst (λ x. PassOne n g.row.N from to a b s _ x) (sym w.same-is)
          (counted_on n g.row.N from to a b s w.pass-same.result (omega (arith, old_count, within)) (omega (arith, new_count, within)) same
          i.passed))
    ] in
    record {
      at = one.at ∙ i.at;
      budget = one.budget ∙ i.budget;
      scripts = one.scripts ∙ i.scripts;
      same = subst (λ (x : Bool). Decides x ((p : ℕ) → p < n + 1 → events_in from to (script_of a p) ≡ events_in from to (script_of b p)))
          (sym both)
          (same_ports (λ p. events_in from to (script_of a p) ≡ events_in from to (script_of b p)) n c.loop-port.all c.if-index.same
          i.same one.one);
      passed = one.passed;
    }
