use Rattle.std.proofs.Common.{◌≡◌, ◌∙◌, arith, length}
use Rattle.std.proofs.lemmas.Bool.{ne_eqb}
use Rattle.pd_desk.proofs.TakeLine.{one_byte, TakingLine-more}
use Rattle.pd_desk.proofs.line_in.take_line.Goals as goal

pub loop-total-preserved : goal.loop-total-preserved
loop-total-preserved g c =
    let space : length c.read.new.space ≡ 1 = omega (arith, c.read.auto.space, c.loop-total.invariant.space) in
    let one : c.in-Ok.count ≡ 1 = omega (arith, c.in-Ok.ensures.counts.0, c.loop-total.invariant.space, c.if-count-eq0.false) in
    let consumes = rw (one_byte c.read.new.space c.in-Ok.count 0 space one) at c.in-Ok.ensures.bytes.0 in
    record {
      taking = rw c.push.ensures
          (TakingLine-more _ _ _ _ _ _ _ c.loop-total.invariant.taking consumes (ne_eqb _ 10 c.if-space-eq10.false));
      reads = c.in-Ok.ensures.counts.1 ∙ c.loop-total.invariant.reads;
      few = omega arith;
      space = space;
    }
