use Rattle.std.proofs.Common.{◌+◌, ◌<◌, ◌≤◌, ◌∙◌, inl, inr, length, arith}
use Rattle.pd_report.proofs.NotedLemmas.{text_passed}
use Rattle.pd_report.proofs.MarginLemmas.{Moves}
use Rattle.pd_report.proofs.ShownLemmas.{page_more}
use Rattle.pd_report.proofs.page.page_from.Goals as goal

pub loop-index-preserved : goal.loop-index-preserved
loop-index-preserved g c =
    let moves : Moves = g.T.Runner.entries c.args.run.now in
    let next = c.next_with-index.ensures in
    let here : c.loop-index.index < length moves = omega (arith, c.len.ensures.count, c.loop-index-test.true) in
    let up : c.loop-index.index + 1 ≤ c.next_with-index.result = omega (arith, next.not_before, here) in
    record {
      text =
          text_passed c.note-note.result moves (g.S.Show.adds c.args.show.now) (c.loop-index.index + 1) c.next_with-index.result
          c.note-note.ensures up next.within next.none_between
          ∙ page_more (g.S.Show.adds c.args.show.now) moves _ _ _ _ c.loop-index.invariant.text c.add_entry.ensures;
      within = next.within;
      more = inl (elim c.loop-index.invariant.more [ inl before ↦ omega (arith, up, before) | inr at ↦ omega (arith, up, at.0) ]);
    }
