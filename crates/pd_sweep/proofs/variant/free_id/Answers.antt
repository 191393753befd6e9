use Rattle.std.proofs.Common.{◌∙◌, sym, arith}
use Rattle.pd_sweep.proofs.IdLemmas.{id_taken, id_free, id_none}
use Rattle.pd_sweep.proofs.variant.free_id.Goals.{then-loop-id-test+else-has_id, else-loop-id-test}
use Rattle.pd_sweep.proofs.variant.free_id.Goals as goal

pub loop-id-preserved : goal.loop-id-preserved
loop-id-preserved g c =
    id_taken c.args.scenario.now.events c.loop-id.id (omega (arith, c.loop-id-test.true)) (sym c.has_id.ensures ∙ c.if-has_id.true)
    ∙ c.loop-id.invariant

pub returns-then-id-eq0 : goal.returns-then-id-eq0
returns-then-id-eq0 g c = id_none c.args.scenario.now.events c.loop-id.id (omega (arith, c.if-id-eq0.true)) ∙ c.loop-id.invariant

pub returns-else-id-eq0 : goal.returns-else-id-eq0
returns-else-id-eq0 g c = elim c.loop-id-test.branch [
  | then-loop-id-test+else-has_id w ↦
      sym (id_free c.args.scenario.now.events c.loop-id.id (omega (arith, w.loop-id-test.true))
      (sym w.has_id.ensures ∙ w.if-has_id.false)) ∙ c.loop-id.invariant
  | else-loop-id-test w ↦ absurd (omega (arith, w.loop-id-test.false, c.if-id-eq0.false))
]
