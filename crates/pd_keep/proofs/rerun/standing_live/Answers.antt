use Rattle.std.proofs.Common.{List, true, length, replicate, ap, sym, ◌∙◌, subst, arith}
use Rattle.pd_port.specs.Port.{PortData}
use Rattle.pd_run.specs.Live.{StandsAfter}
use Rattle.pd_run.specs.UpTo.{AreAfter}
use Rattle.pd_keep.specs.declared.rerun.Standing.{Standing}
use Rattle.pd_keep.specs.declared.rerun.Standing.TheVariants as standing
use Rattle.pd_keep.specs.Kept.{RunData}
use Rattle.pd_keep.specs.Rerun.{ComesTo}
use Rattle.pd_keep.specs.Spans.{moves_of}
use Rattle.pd_keep.proofs.Beside.{known_all, known_at, resumes}
use Rattle.pd_keep.proofs.rerun.standing_live.Goals as goal

pub resume-requires : goal.resume-requires
resume-requires g c =
    let h = c.requires.comes in
    let k : ComesTo g.row.N h.0 h.1 c.args.old.now c.args.plan.now h.2 c.args.at h.3 standing.Alike =
    subst (λ (st : Standing g.row.N). ComesTo g.row.N h.0 h.1 c.args.old.now c.args.plan.now h.2 c.args.at h.3 st) c.in-Alike.is h.4 in
    let n = (resumes g.row.N h.0 h.1 c.args.old.now c.args.plan.now h.2 c.args.at h.3 k).0 in
    (omega arith, (omega arith, (ap length c.in_ok-ports-in-Alike.ensures ∙ n, k.soon)))

pub returns-in_ok-live-in-Alike-clause-stands : goal.returns-in_ok-live-in-Alike-clause-stands
returns-in_ok-live-in-Alike-clause-stands g c = λ old_plan old_spans spans agree h.
    let plan = c.args.plan.now in
    let old : RunData = c.args.old.now in
    let k : ComesTo g.row.N old_plan old_spans old plan spans c.args.at agree standing.Alike =
    subst (λ (st : Standing g.row.N). ComesTo g.row.N old_plan old_spans old plan spans c.args.at agree st) c.in-Alike.is h in
    let after = (resumes g.row.N old_plan old_spans old plan spans c.args.at agree k).1 in
    rw c.with_spare.ensures (c.in_ok-live-in-Alike.ensures (moves_of spans) k.far.up
    (subst (λ (l : List PortData). AreAfter plan (moves_of spans) l) (sym c.in_ok-ports-in-Alike.ensures) after))

pub returns-in_ok-live-in-Alike-clause-known : goal.returns-in_ok-live-in-Alike-clause-known
returns-in_ok-live-in-Alike-clause-known g c = λ old_plan old_spans spans agree h.
    let plan = c.args.plan.now in
    let old : RunData = c.args.old.now in
    let k : ComesTo g.row.N old_plan old_spans old plan spans c.args.at agree standing.Alike =
    subst (λ (st : Standing g.row.N). ComesTo g.row.N old_plan old_spans old plan spans c.args.at agree st) c.in-Alike.is h in
    let after = (resumes g.row.N old_plan old_spans old plan spans c.args.at agree k).1 in
    let stands : StandsAfter plan (moves_of spans) c.in_ok-live-in-Alike.live =
    c.in_ok-live-in-Alike.ensures (moves_of spans) k.far.up
    (subst (λ (l : List PortData). AreAfter plan (moves_of spans) l) (sym c.in_ok-ports-in-Alike.ensures) after) in
    rw c.with_spare.ensures
    (known_all g.row.N old_plan old_spans old plan spans c.args.at agree c.in_ok-live-in-Alike.live (replicate 8 true) k stands)

pub returns-in-Apart-clause-known : goal.returns-in-Apart-clause-known
returns-in-Apart-clause-known g c = λ old_plan old_spans spans agree h.
    let plan = c.args.plan.now in
    let old : RunData = c.args.old.now in
    let st = standing.Apart c.in-Apart.live c.in-Apart.alike in
    let k : ComesTo g.row.N old_plan old_spans old plan spans c.args.at agree st =
    subst (λ (s : Standing g.row.N). ComesTo g.row.N old_plan old_spans old plan spans c.args.at agree s) c.in-Apart.is h in
    known_at g.row.N old_plan old_spans old plan spans c.args.at agree st k
