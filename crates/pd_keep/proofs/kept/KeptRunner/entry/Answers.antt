use Rattle.std.proofs.Common.{◌≡◌, Option, Some, map, ap, sym, ◌∙◌, subst, slice_get}
use Rattle.pd_run.specs.Run.{shown}
use Rattle.pd_keep.specs.declared.kept.KeptRun.{KeptRun}
use Rattle.pd_keep.specs.Fresh.{Running}
use Rattle.pd_keep.specs.Running.{running, Keeps}
use Rattle.pd_keep.specs.Spans.{IsKept, kept_of_spans}
use Rattle.pd_keep.proofs.Shows.{shown_as_moves}
use Rattle.pd_keep.proofs.kept.KeptRunner.entry.Goals as goal

pub returns-clause-entry : goal.returns-clause-entry
returns-clause-entry g c =
    let run : KeptRun g.row.N = c.in_ok-run.run'.now in
    let is : c.self.inside.run ≡ Some run = sym c.in_ok-run.ensures.value in
    let kept : IsKept g.row.N run.plan run.spans = subst (λ (r : Option (KeptRun g.row.N)). Keeps g.row.N r) is c.self.invariant in
    c.entry.ensures ∙ shown_as_moves run.plan (kept_of_spans run.spans) c.args.i kept.own
    ∙ ap (λ (r : Option (KeptRun g.row.N)). slice_get (map shown (running g.row.N r).moves) c.args.i) (sym is)
    ∙ ap (λ (r : Running). slice_get (map shown r.moves) c.args.i) c.self.view_is
