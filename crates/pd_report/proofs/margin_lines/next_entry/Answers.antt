use Rattle.std.proofs.Common.{arith, sym}
use Rattle.pd_report.proofs.MarginLemmas.{none-before-some, none-after}
use Rattle.pd_report.proofs.margin_lines.next_entry.Goals as goal

pub returns-in-Some-clause-none_before : goal.returns-in-Some-clause-none_before
returns-in-Some-clause-none_before g c =
    none-before-some _ _ (g.T.Runner.entries c.args.run.now) c.args.index c.min.result (c.in-Some.field-0-0, c.in-Some.entry.now)
    (sym c.in-Some.ensures.entry)
    (omega (arith, c.min.ensures)) c.entry.ensures.run

pub returns-in-None-clause-none_before : goal.returns-in-None-clause-none_before
returns-in-None-clause-none_before g c =
    none-after (g.T.Runner.entries c.args.run.now) c.args.index c.args.after_end (sym c.in-None.ensures.entry)
