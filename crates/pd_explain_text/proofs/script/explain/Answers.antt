use Rattle.std.proofs.Common.{false, inl, subst}
use Rattle.std.specs.Str.Lines.{lines}
use Rattle.pd_text.specs.Fronts.{front_of_file}
use Rattle.pd_explain_text.specs.Told.{Tells}
use Rattle.pd_explain_text.proofs.Written.{so_far, started}
use Rattle.pd_explain_text.proofs.script.explain.Goals as goal

pub returns-in_default-clause-text : goal.returns-in_default-clause-text
returns-in_default-clause-text g c = inl (so_far _ _ false _ _ (started _ _))

pub returns-clause-text : goal.returns-clause-text
returns-clause-text g c =
    let t = c.args.telling.now in
    subst
    (λ edits. Tells t.warns (front_of_file t.form t.file.now) edits g.row.N c.args.scenario (lines c.args.script.now)
    c.explain_behind.result (g.W.TextOut.taken c.args.writer.now) (g.W.TextOut.taken c.explain_behind.new.writer))
    c.in-Ok.ensures c.explain_behind.ensures.text
