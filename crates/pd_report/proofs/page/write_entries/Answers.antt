use Rattle.std.proofs.Common.{arith, ◌∙◌}
use Rattle.std.proofs.lemmas.Result.{err_from_is_err_and}
use Rattle.pd_report.proofs.ShownLemmas.{Walked-page, Walked-torn, Walked-all}
use Rattle.pd_report.proofs.page.write_entries.Goals as goal

pub loop-seen-preserved : goal.loop-seen-preserved
loop-seen-preserved g c = record {
  walked = Walked-page _ _ _ _ _ _ _ _ _ c.loop-seen.invariant.walked c.page_from-page.ensures.text c.in_ok-write_text.ensures.text;
  counts = c.in_ok-write_text.ensures.counts ∙ c.loop-seen.invariant.counts;
}

pub returns-in_err-write_text-clause-text : goal.returns-in_err-write_text-clause-text
returns-in_err-write_text-clause-text g c =
    let p = err_from_is_err_and c.from_residual.result c.from_residual.ensures.1 in
    rw (p.1, p.2) (
      c.in_err-write_text.ensures.text.0,
      Walked-torn _ _ _ _ _ _ _ _ _ c.loop-seen.invariant.walked c.page_from-page.ensures.text c.in_err-write_text.ensures.text.1,
    )

pub returns-clause-text : goal.returns-clause-text
returns-clause-text g c = Walked-all _ _ _ _ _ _ c.loop-seen.invariant.walked (omega arith)
