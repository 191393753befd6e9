use Rattle.std.proofs.Common.{◌≡◌, ◌∙◌, ◌+◌, List, ℕ, Some, ap, inr, refl, sym, subst, arith}
use Rattle.std.specs.Io.KnownBytes.{Appends}
use Rattle.std.proofs.lemmas.Result.{err_from_is_err_and}
use Rattle.pd_device.specs.Device.{WrotePart}
use Rattle.pd_vary.specs.Varies.{sets_of}
use Rattle.pd_vary.proofs.RowLemmas.{Progress, began_head, began_last, began_so_far, began_torn, progress_more, progress_none, wrote_rows}
use Rattle.pd_vary.proofs.SetLemmas.{few_are}
use Rattle.pd_vary.proofs.walk.vary.Goals as goal

pub returns-in_err-write_all-clause-text : goal.returns-in_err-write_all-clause-text
returns-in_err-write_all-clause-text g c =
    let p = err_from_is_err_and c.from_residual-in_err-write_all.result c.from_residual-in_err-write_all.ensures.1 in
    let part : List ℕ → Type 0 =
    λ text. WrotePart (g.W.TextOut.taken c.args.writer.now) (g.W.TextOut.taken c.write_all.new.writer) text in
    rw (p.1) (inr (began_head g.row.N c.args.scenario.now c.args.question.now _ _
    (subst part (c.as_slice.ensures.value ∙ c.in-Ok-head.ensures) c.in_err-write_all.ensures.text.1)))

pub loop-row-init : goal.loop-row-init
loop-row-init g c =
    let whole : List ℕ → Type 0 =
    λ text. Appends (g.W.TextOut.taken c.args.writer.now) (g.W.TextOut.taken c.write_all.new.writer) text in
    record {
      progress =
          progress_none g.row.N c.args.scenario.now c.args.question.now _ _ _ c.new-outcomes.ensures.items
          (subst whole (c.as_slice.ensures.value ∙ c.in-Ok-head.ensures) c.in_ok-write_all.ensures.text);
      few = omega arith;
      counts = c.in_ok-write_all.ensures.counts;
    }

pub returns-in_err-made-clause-text : goal.returns-in_err-made-clause-text
returns-in_err-made-clause-text g c =
    let p = err_from_is_err_and c.from_residual-in_err-made.result c.from_residual-in_err-made.ensures.1 in
    let all = few_are (sets_of c.args.question.now) c.in-Some.rows (sym c.in-Some.ensures.value) in
    rw (p.1) (inr (began_so_far g.row.N c.args.scenario.now c.args.question.now c.loop-row.row _ _ _ _
    (omega (arith, all, c.loop-row-test.true)) c.loop-row.invariant.progress))

pub returns-in_err-write_all-2-clause-text : goal.returns-in_err-write_all-2-clause-text
returns-in_err-write_all-2-clause-text g c =
    let p = err_from_is_err_and c.from_residual-in_err-write_all-2.result c.from_residual-in_err-write_all-2.ensures.1 in
    let all = few_are (sets_of c.args.question.now) c.in-Some.rows (sym c.in-Some.ensures.value) in
    rw (p.1) (inr (began_torn g.row.N c.args.scenario.now c.args.question.now c.loop-row.row _ _ _ _ _ c.in_ok-made.made
    (omega (arith, all, c.loop-row-test.true)) c.loop-row.invariant.progress c.in_ok-made.ensures.value
    (rw (sym c.as_slice-in-loop-row.ensures.value) c.in_err-write_all-2.ensures.text.1)))

pub returns-in_err-keep-clause-text : goal.returns-in_err-keep-clause-text
returns-in_err-keep-clause-text g c =
    let p = err_from_is_err_and c.from_residual-in_err-keep.result c.from_residual-in_err-keep.ensures.1 in
    let all = few_are (sets_of c.args.question.now) c.in-Some.rows (sym c.in-Some.ensures.value) in
    rw (p.1) (inr (began_so_far g.row.N c.args.scenario.now c.args.question.now (c.loop-row.row + 1) _ _ _ _
    (omega (arith, all, c.loop-row-test.true))
    (progress_more g.row.N c.args.scenario.now c.args.question.now c.loop-row.row _ _ _ _ _ _ _ c.in_ok-made.made
    c.loop-row.invariant.progress c.in_ok-made.ensures.value c.counted-holding.ensures.value refl
    (rw (sym c.as_slice-in-loop-row.ensures.value) c.in_ok-write_all-2.ensures.text))))

pub loop-row-preserved : goal.loop-row-preserved
loop-row-preserved g c = record {
  progress =
      progress_more g.row.N c.args.scenario.now c.args.question.now c.loop-row.row _ _ _ _ _ _ _ c.in_ok-made.made
      c.loop-row.invariant.progress c.in_ok-made.ensures.value c.counted-holding.ensures.value c.in_ok-keep.ensures.kept
      (rw (sym c.as_slice-in-loop-row.ensures.value) c.in_ok-write_all-2.ensures.text);
  few = omega (arith, c.counted-holding.ensures.few, c.loop-row.invariant.few);
  counts = c.in_ok-write_all-2.ensures.counts ∙ c.loop-row.invariant.counts;
}

pub returns-in_default-summary-clause-text : goal.returns-in_default-summary-clause-text
returns-in_default-summary-clause-text g c =
    let all = few_are (sets_of c.args.question.now) c.in-Some.rows (sym c.in-Some.ensures.value) in
    inr (began_so_far g.row.N c.args.scenario.now c.args.question.now c.loop-row.row _ _ _ _
    (omega (arith, all, c.loop-row-test.false)) c.loop-row.invariant.progress)

pub returns-in_err-write_all-3-clause-text : goal.returns-in_err-write_all-3-clause-text
returns-in_err-write_all-3-clause-text g c =
    let p = err_from_is_err_and c.from_residual-in_err-write_all-3.result c.from_residual-in_err-write_all-3.ensures.1 in
    let all = few_are (sets_of c.args.question.now) c.in-Some.rows (sym c.in-Some.ensures.value) in
    let part : List ℕ → Type 0 =
    λ text. WrotePart (g.W.TextOut.taken c.loop-row.writer) (g.W.TextOut.taken c.write_all-2.new.writer) text in
    rw (p.1) (inr (began_last g.row.N c.args.scenario.now c.args.question.now c.loop-row.row c.in-Some.rows _ _ _ _ _
    (omega (arith, c.loop-row-test.false)) all c.loop-row.invariant.progress
    (subst part (c.as_slice-2.ensures.value ∙ c.in-Ok-summary.ensures) c.in_err-write_all-3.ensures.text.1)))

pub returns-clause-text : goal.returns-clause-text
returns-clause-text g c =
    let q = c.args.question.now in
    let few = sym c.in-Some.ensures.value in
    let all = few_are (sets_of q) c.in-Some.rows few in
    let end : c.loop-row.row ≡ c.in-Some.rows = omega (arith, c.loop-row-test.false) in
    let first = g.W.TextOut.taken c.args.writer.now in
    let last = g.W.TextOut.taken c.loop-row.writer in
    let whole : List ℕ → Type 0 = λ text. Appends last (g.W.TextOut.taken c.write_all-2.new.writer) text in
    let IsAt : ℕ → Type 0 =
    λ place. Progress g.row.N c.args.scenario.now q place c.loop-row.holding c.loop-row.outcomes.items first last in (
      few ∙ ap Some all,
      wrote_rows g.row.N c.args.scenario.now q c.in-Some.rows c.loop-row.holding _ _ _ _ all (subst IsAt end c.loop-row.invariant.progress)
          (subst whole (c.as_slice-2.ensures.value ∙ c.in-Ok-summary.ensures) c.in_ok-write_all-3.ensures.text),
    )
