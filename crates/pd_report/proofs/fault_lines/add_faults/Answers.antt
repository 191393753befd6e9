use Rattle.std.proofs.Common.{arith, ℕ, ◌<◌, List, [], length, get_or, refl}
use Rattle.pd_line.specs.declared.notes.Fault.TheVariants.{Ignored}
use Rattle.pd_report.specs.FaultLines.{fault_text}
use Rattle.pd_report.proofs.ShownLemmas.{Walked-at, lines_more}
use Rattle.pd_report.proofs.fault_lines.add_faults.Goals as goal

pub loop-fault-preserved : goal.loop-fault-preserved
loop-fault-preserved c =
    let faults = c.args.faults.now in
    let here : c.loop-fault.fault-index < length c.args.faults.now = c.loop-fault-test.true in
    let line : List ℕ = fault_text c.args.at c.args.port (get_or faults c.loop-fault.fault-index (Ignored 0)) in
    record {
      text =
          lines_more (fault_text c.args.at c.args.port) faults c.loop-fault.fault-index c.args.page.now c.loop-fault.page
          c.add_fault.new.page line c.loop-fault.invariant.text
          (Walked-at (fault_text c.args.at c.args.port) [] faults c.loop-fault.fault-index (Ignored 0) line here refl)
          c.add_fault.ensures.text;
      room = omega (arith, c.add_fault.ensures.short, c.loop-fault.invariant.room);
    }
