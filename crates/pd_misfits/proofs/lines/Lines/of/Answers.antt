use Rattle.std.proofs.Common.{rules, tests, ◌≡◌, ◌∙◌, ◌==◌, ap, false, get_or, ◌-◌, ◌+◌, ℕ, arith, inr}
use Rattle.pd_misfits.proofs.NextLine.{byte_before, next_line, same_line}
use Rattle.pd_misfits.proofs.lines.Lines.of.Goals as goal
use Rattle.pd_misfits.proofs.lines.Lines.of.Goals.{then-byte-eq10+in_ok-walk, else-byte-eq10}

pub loop-i-preserved : goal.loop-i-preserved
loop-i-preserved c =
    let text = c.args.text.now in
    let i = c.loop-i.i in
    elim c.if-byte-eq10.branch [
      | then-byte-eq10+in_ok-walk w ↦
          let is : get_or text i 0 ≡ 10 = search (rules, tests) in
          let next = ap (λ (n : ℕ). n + 1) c.loop-i.invariant.line ∙ next_line text i c.loop-i-test.true is in
          rw (w.lines-is, w.mark-is) (record {
            marks = w.in_ok-walk.ensures;
            mark = record {
              within = search (rules, tests);
              begins = inr (byte_before text i is);
              line_is = next;
              fits = search (rules, tests);
            };
            before = omega arith;
            line = next;
            bound = omega (arith, c.loop-i.invariant.bound);
          })
      | else-byte-eq10 w ↦
          let other : (get_or text i 0 == 10) ≡ false = search (rules, tests) in
          rw (w.lines-is, w.mark-is) (record {
            marks = c.loop-i.invariant.marks;
            mark = c.loop-i.invariant.mark;
            before = omega (arith, c.loop-i.invariant.before);
            line = c.loop-i.invariant.line ∙ same_line text i c.loop-i-test.true other;
            bound = omega (arith, c.loop-i.invariant.bound);
          })
    ]
