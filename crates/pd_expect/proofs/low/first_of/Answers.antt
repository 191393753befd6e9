use Rattle.std.proofs.Common.{◌≡◌, Bool, true, false, arith, not, ap, ◌∙◌, refl, sym}
use Rattle.std.proofs.Math.Bool.{beq}
use Rattle.std.specs.Prelude.{nat_le}
use Rattle.pd_scenario.specs.Plan.{Plan}
use Rattle.pd_scenario.specs.Plans.{plan_of}
use Rattle.pd_expect.specs.OverTime.{Moves}
use Rattle.pd_expect.proofs.LowLemmas.{held_to}
use Rattle.pd_expect.proofs.low.first_of.Goals as goal

flipped : (b e : Bool) → beq b e ≡ false → b ≡ not e
flipped true true h = h
flipped true false h = refl
flipped false true h = refl
flipped false false h = sym h

pub loop-at-smaller : goal.loop-at-smaller
loop-at-smaller g c =
    let next = c.in-Some.ensures (plan_of c.args.scenario.now) c.requires in
    omega (arith, next.0, c.loop-at-test.true)

pub loop-at-preserved : goal.loop-at-preserved
loop-at-preserved g c =
    let plan : Plan = plan_of c.args.scenario.now in
    let moves : Moves = g.T.Runner.entries c.args.run.now in
    let next = c.in-Some.ensures plan c.requires in
    record {
      after_start = omega (arith, c.loop-at.invariant.after_start, next.0);
      other_before =
          held_to plan moves c.args.from c.loop-at.at c.in-Some.next next.1 (λ margin. nat_le c.args.wanted margin ≡ not c.args.enough)
          c.loop-at.invariant.other_before
          (ap (nat_le c.args.wanted) (sym c.margin_at.ensures)
          ∙ flipped (nat_le c.args.wanted c.margin_at.result) c.args.enough c.if-is_enough-enough.false);
    }
