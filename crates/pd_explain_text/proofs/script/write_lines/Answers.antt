use Rattle.std.proofs.Common.{arith, refl, ◌∙◌}
use Rattle.std.proofs.lemmas.Result.{err_from_is_err_and}
use Rattle.pd_explain_text.proofs.ScriptLines.{more_told, all_told, more_followed, all_followed, more_made, all_made}
use Rattle.pd_explain_text.proofs.Written.{started, more, so_far, torn, all_written}
use Rattle.pd_explain_text.proofs.script.write_lines.Goals as goal

pub loop-line-init : goal.loop-line-init
loop-line-init g c = record {
  progress = started _ _;
  after = refl;
  noted = refl;
  counts = refl;
  count = omega arith;
}

pub returns-in_default-take_line-clause-text : goal.returns-in_default-take_line-clause-text
returns-in_default-take_line-clause-text g c = so_far _ _ c.loop-line.any _ _ c.loop-line.invariant.progress

pub returns-in_err-write_all-clause-text : goal.returns-in_err-write_all-clause-text
returns-in_err-write_all-clause-text g c =
    let told =
    more_told c.args.edits.now g.row.N c.loop-line.scenario _ c.loop-line.number _ c.loop-line.rest.now _ _
    c.in-Some.ensures.lines (c.as_slice-told.ensures.value ∙ c.in-Ok.ensures.told) c.in-Ok.ensures.after in
    let p = err_from_is_err_and c.from_residual.result c.from_residual.ensures.1 in
    rw (p.1) (torn _ _ _ _ c.loop-line.any _ _ _ c.loop-line.invariant.progress told c.in_err-write_all.ensures.text.1)

pub loop-line-preserved : goal.loop-line-preserved
loop-line-preserved g c =
    let told =
    more_told c.args.edits.now g.row.N c.loop-line.scenario _ c.loop-line.number _ c.loop-line.rest.now _ _
    c.in-Some.ensures.lines (c.as_slice-told.ensures.value ∙ c.in-Ok.ensures.told) c.in-Ok.ensures.after in
    record {
      progress =
          more _ _ _ _ c.loop-line.any _ _ _ _ c.loop-line.invariant.progress told c.in_ok-write_all.ensures.text
          c.is_any-any.ensures;
      after =
          more_followed g.row.N _ c.loop-line.scenario _ _ c.loop-line.rest.now _ c.loop-line.invariant.after
          c.in-Some.ensures.lines c.in-Ok.ensures.after;
      noted =
          more_made _ _ _ _ g.row.N c.loop-line.scenario _ c.loop-line.number c.loop-line.rest.now _ c.loop-line.invariant.noted
          c.in-Some.ensures.lines c.in-Ok.ensures.made c.in-Ok.ensures.after;
      counts = c.in_ok-write_all.ensures.counts ∙ c.loop-line.invariant.counts;
      count = omega (arith, c.in-Some.ensures.shorter);
    }

pub returns-clause-text : goal.returns-clause-text
returns-clause-text g c =
    all_written _ _ c.loop-line.any _ _ c.loop-line.invariant.progress
    (all_told c.args.edits.now g.row.N c.loop-line.scenario c.loop-line.number c.loop-line.rest.now
    c.in_default.ensures.lines)

pub returns-clause-after : goal.returns-clause-after
returns-clause-after g c =
    all_followed g.row.N _ c.loop-line.scenario c.loop-line.rest.now c.loop-line.invariant.after c.in_default.ensures.lines

pub returns-clause-made : goal.returns-clause-made
returns-clause-made g c =
    all_made _ _ g.row.N c.loop-line.scenario c.loop-line.number c.loop-line.rest.now c.loop-line.invariant.noted
    c.in_default.ensures.lines
