use Rattle.std.proofs.Common.{inl, inr, ap, ◌∙◌, ◌++◌}
use Rattle.std.specs.Str.Lines.{lines}
use Rattle.std.proofs.lemmas.Result.{err_from_is_err_and}
use Rattle.pd_scene.specs.Made.{made}
use Rattle.pd_text.specs.Fronts.{front_of_file}
use Rattle.pd_explain_text.proofs.ScriptLines.{ends_as}
use Rattle.pd_explain_text.proofs.Written.{behind, torn_behind, whole_part}
use Rattle.pd_explain_text.proofs.script.explain_behind.Goals as goal

pub returns-in_err-any-clause-text : goal.returns-in_err-any-clause-text
returns-in_err-any-clause-text g c =
    let p = err_from_is_err_and c.from_residual.result c.from_residual.ensures.1 in rw (p.1) (inl c.in_err-any.ensures.text)

pub returns-in_default-clause-text : goal.returns-in_default-clause-text
returns-in_default-clause-text g c = inl (whole_part _ _ _ c.in_ok-any.ensures.text.0)

pub returns-in_err-write_all-clause-text : goal.returns-in_err-write_all-clause-text
returns-in_err-write_all-clause-text g c =
    let t = c.args.telling.now in
    let p = err_from_is_err_and c.from_residual-in_err-write_all.result c.from_residual-in_err-write_all.ensures.1 in
    let noted =
    c.as_slice.ensures.value ∙ c.in_ok-any.ensures.made
    ∙ ap (λ ms. ms ++ made g.row.N c.args.scenario 1 (lines c.args.script.now)) c.new-made.ensures.items in
    let file = front_of_file t.form t.file.now in
    let tells = ends_as t.warns file c.args.edits.now g.row.N _ _ _ _ _ c.in_ok-any.ensures.after noted c.in-Ok.ensures in
    rw (p.1)
    (inr (
      c.in-Ok.end.items,
      tells,
      torn_behind _ _ _ _ _ _ c.as_slice-2.ensures.value c.in_ok-any.ensures.text.0
          c.in_err-write_all.ensures.text.1,
    ))

pub returns-clause-text : goal.returns-clause-text
returns-clause-text g c =
    let t = c.args.telling.now in
    let noted =
    c.as_slice.ensures.value ∙ c.in_ok-any.ensures.made
    ∙ ap (λ ms. ms ++ made g.row.N c.args.scenario 1 (lines c.args.script.now)) c.new-made.ensures.items in
    let file = front_of_file t.form t.file.now in
    record {
      end = c.in-Ok.end.items;
      tells_end = ends_as t.warns file c.args.edits.now g.row.N _ _ _ _ _ c.in_ok-any.ensures.after noted c.in-Ok.ensures;
      appends = behind _ _ _ _ _ _ c.as_slice-2.ensures.value c.in_ok-any.ensures.text.0 c.in_ok-write_all.ensures.text;
      any_is = c.in_ok-any.ensures.text.1;
    }
