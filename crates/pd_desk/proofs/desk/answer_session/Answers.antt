use Rattle.std.proofs.Common.{◌≡◌, [], Ok, refl}
use Rattle.std.proofs.KnownBytes.{Appends-nil}
use Rattle.pd_edit_lines.specs.Grammar.{line_of}
use Rattle.pd_edit_lines.specs.declared.line.Line.TheVariants as lines_read
use Rattle.pd_bench.specs.declared.tally.Outcome.TheVariants as outcomes
use Rattle.pd_desk.proofs.desk.answer_session.Goals as goal

pub returns-in-Ok-Skip-clause-reply : goal.returns-in-Ok-Skip-clause-reply
returns-in-Ok-Skip-clause-reply g c =
    let read = c.in-Ok-Skip.ensures in
    let skip = c.in-Ok-Skip.field-0-is in
    let is : line_of c.args.line.now ≡ Ok lines_read.Skip = cc in
    rw is ([], outcomes.Skipped, ((refl, refl, refl), refl, (refl, refl, refl, refl)), Appends-nil _, λ e. absurd (cc))
