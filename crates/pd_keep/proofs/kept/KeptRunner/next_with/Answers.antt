use Rattle.std.proofs.Common.{◌≡◌, ℕ, List, Option, Some, map, ap, sym, ◌∙◌, subst}
use Rattle.pd_port.specs.declared.entry.Entry.{Entry}
use Rattle.pd_run.specs.Notes.{IsNextWith}
use Rattle.pd_run.specs.Run.{shown}
use Rattle.pd_keep.specs.declared.kept.KeptRun.{KeptRun}
use Rattle.pd_keep.specs.Fresh.{Running}
use Rattle.pd_keep.specs.Kept.{shown_of}
use Rattle.pd_keep.specs.Running.{running, Keeps}
use Rattle.pd_keep.specs.Spans.{IsKept, kept_of_spans}
use Rattle.pd_keep.proofs.Noted.{shown_all}
use Rattle.pd_keep.proofs.kept.KeptRunner.next_with.Goals as goal

pub returns-in-Some : goal.returns-in-Some
returns-in-Some g c =
    let run : KeptRun g.row.N = c.in-Some.run' in
    let is : c.self.inside.run ≡ Some run = c.in-Some.is in
    let kept : IsKept g.row.N run.plan run.spans = subst (λ (r : Option (KeptRun g.row.N)). Keeps g.row.N r) is c.self.invariant in
    let same : map shown_of (kept_of_spans run.spans) ≡ map shown c.args.self.now.moves =
    shown_all run.plan (kept_of_spans run.spans) kept.own
    ∙ ap (λ (r : Option (KeptRun g.row.N)). map shown (running g.row.N r).moves) (sym is)
    ∙ ap (λ (r : Running). map shown r.moves) c.self.view_is in
    subst (λ (l : List (ℕ × Entry)). IsNextWith c.args.note l c.args.from c.next_with.result) same c.next_with.ensures
