use Rattle.std.proofs.Common.{◌≡◌, ◌++◌, ◌∷◌, [], List, map, ap, sym, ◌∙◌, subst, arith}
use Rattle.pd_run.specs.Run.{Move}
use Rattle.pd_keep.specs.Kept.{move_of}
use Rattle.pd_keep.specs.Kept.{RunData}
use Rattle.pd_keep.specs.Rerun.{BeginsWithMarked, ComesTo, IsSoFar, IsShared, StandsAlike, Costs}
use Rattle.pd_keep.specs.Spans.{moves_of}
use Rattle.pd_keep.specs.Kept.{left_by}
use Rattle.pd_keep.specs.Places.{StandAs}
use Rattle.pd_keep.specs.Following.{ComesApart}
use Rattle.pd_keep.proofs.Beside.{known_then, next_costs}
use Rattle.pd_keep.proofs.Course.{apart_at}
use Rattle.pd_keep.proofs.Parted.{so_far_push, moves_push}
use Rattle.pd_keep.proofs.rerun.next_spans.Goals as goal

pub returns-then-shared-clause-so_far : goal.returns-then-shared-clause-so_far
returns-then-shared-clause-so_far g c =
    let plan = c.args.plan.now in
    let old : RunData = c.args.old.now.value in
    let at = c.args.at in
    let spans : List RunData = c.args.spans.now in
    let is : c.in_ok-clone.field-0.value ≡ old = c.in_ok-clone.ensures.cases in
    let pushed : c.push.new.self ≡ spans ++ old ∷ [] = c.in_ok-push.ensures ∙ ap (λ (s : RunData). spans ++ s ∷ []) is in
    let read : c.deref.result.now ≡ old = c.deref.ensures in
    let h = c.requires.comes in
    let old_plan = h.0 in
    let old_spans : List RunData = h.1 in
    let k = h.2 in
    let there : ComesTo g.row.N old_plan old_spans c.deref.result.now plan spans at c.args.common c.args.standing =
    subst (λ (s : RunData). ComesTo g.row.N old_plan old_spans s plan spans at c.args.common c.args.standing) (sym read) k in
    let shared : IsShared g.row.N old_plan old_spans old plan (moves_of spans) at =
    subst (λ (s : RunData). IsShared g.row.N old_plan old_spans s plan (moves_of spans) at) read
    (c.in_ok-shared.ensures c.if-shared.true old_plan old_spans spans at there) in
    rw pushed (so_far_push g.row.N plan spans old at k.far k.soon shared.next)

pub returns-then-shared-clause-stands : goal.returns-then-shared-clause-stands
returns-then-shared-clause-stands g c = λ old_plan old_spans k.
    let plan = c.args.plan.now in
    let old : RunData = c.args.old.now.value in
    let at = c.args.at in
    let spans : List RunData = c.args.spans.now in
    let is : c.in_ok-clone.field-0.value ≡ old = c.in_ok-clone.ensures.cases in
    let pushed : c.push.new.self ≡ spans ++ old ∷ [] = c.in_ok-push.ensures ∙ ap (λ (s : RunData). spans ++ s ∷ []) is in
    let read : c.deref.result.now ≡ old = c.deref.ensures in
    let there : ComesTo g.row.N old_plan old_spans c.deref.result.now plan spans at c.args.common c.args.standing =
    subst (λ (s : RunData). ComesTo g.row.N old_plan old_spans s plan spans at c.args.common c.args.standing) (sym read) k in
    let shared : IsShared g.row.N old_plan old_spans old plan (moves_of spans) at =
    subst (λ (s : RunData). IsShared g.row.N old_plan old_spans s plan (moves_of spans) at) read
    (c.in_ok-shared.ensures c.if-shared.true old_plan old_spans spans at there) in
    rw pushed (subst (λ (l : List Move). StandsAlike g.row.N old_plan old_spans plan l old.to) (sym (moves_push spans old)) shared.stands)

pub returns-then-shared-clause-cost : goal.returns-then-shared-clause-cost
returns-then-shared-clause-cost g c = λ old_plan old_spans first k so_far.
    let plan = c.args.plan.now in
    let old : RunData = c.args.old.now.value in
    let at = c.args.at in
    let spans : List RunData = c.args.spans.now in
    let is : c.in_ok-clone.field-0.value ≡ old = c.in_ok-clone.ensures.cases in
    let pushed : c.push.new.self ≡ spans ++ old ∷ [] = c.in_ok-push.ensures ∙ ap (λ (s : RunData). spans ++ s ∷ []) is in
    let read : c.deref.result.now ≡ old = c.deref.ensures in
    let there : ComesTo g.row.N old_plan old_spans c.deref.result.now plan spans at c.args.common c.args.standing =
    subst (λ (s : RunData). ComesTo g.row.N old_plan old_spans s plan spans at c.args.common c.args.standing) (sym read) k in
    let shared : IsShared g.row.N old_plan old_spans old plan (moves_of spans) at =
    subst (λ (s : RunData). IsShared g.row.N old_plan old_spans s plan (moves_of spans) at) read
    (c.in_ok-shared.ensures c.if-shared.true old_plan old_spans spans at there) in
    let paid : Costs old_plan (moves_of old_spans) plan (map move_of old.moves) c.args.meter.now c.args.meter.now =
    (0, shared.fresh, omega arith) in
    rw pushed (next_costs old_plan (moves_of old_spans) plan spans old first c.args.meter.now c.args.meter.now so_far paid)

pub go_on-requires : goal.go_on-requires
go_on-requires g c =
    let h = c.requires.comes in
    let old : RunData = c.args.old.now.value in
    let k : ComesTo g.row.N h.0 h.1 c.deref-2.result.now c.args.plan.now c.args.spans.now c.args.at c.args.common c.args.standing =
    subst (λ (s : RunData). ComesTo g.row.N h.0 h.1 s c.args.plan.now c.args.spans.now c.args.at c.args.common c.args.standing)
    (sym c.deref-2.ensures) h.2 in
    let apart : ComesApart g.row.N h.0 h.1 old c.args.plan.now c.args.spans.now c.args.at c.args.common c.in_ok-live.alike
    c.in_ok-live.live =
    apart_at g.row.N h.0 h.1 old c.args.plan.now c.args.spans.now c.args.at c.args.common c.args.standing c.in_ok-live.alike
    c.in_ok-live.live h.2 (c.in_ok-live.ensures.stands h.0 h.1 c.args.spans.now c.args.common k)
    (subst (λ (s : RunData). BeginsWithMarked g.row.N s c.in_ok-live.live c.in_ok-live.alike) c.deref-2.ensures
    (c.in_ok-live.ensures.known h.0 h.1 c.args.spans.now c.args.common k)) in
    rw c.deref-3.ensures (omega arith, (omega arith, (h.0, h.1, apart)))

pub returns-clause-so_far : goal.returns-clause-so_far
returns-clause-so_far g c =
    subst (λ (s : RunData). IsSoFar g.row.N c.args.plan.now c.go_on.new.spans s.to) c.deref-3.ensures c.in_ok-alike.ensures.so_far

pub returns-clause-stands : goal.returns-clause-stands
returns-clause-stands g c = λ old_plan old_spans k.
    let old : RunData = c.args.old.now.value in
    record {
      stands = c.in_ok-alike.ensures.stands;
      known = known_then g.row.N old_plan old_spans old c.args.plan.now c.args.spans.now c.args.at c.args.common c.args.standing
          c.go_on.new.live c.in_ok-alike.alike k
          (subst (λ (s : RunData). StandAs g.row.N c.in_ok-alike.alike c.go_on.new.live (left_by s.first s.moves))
          c.deref-3.ensures c.in_ok-alike.ensures.known);
    }

pub returns-clause-cost : goal.returns-clause-cost
returns-clause-cost g c = λ old_plan old_spans first h so_far.
    let old : RunData = c.args.old.now.value in
    let k : ComesTo g.row.N old_plan old_spans c.deref-2.result.now c.args.plan.now c.args.spans.now c.args.at c.args.common
    c.args.standing =
    subst (λ (s : RunData). ComesTo g.row.N old_plan old_spans s c.args.plan.now c.args.spans.now c.args.at c.args.common c.args.standing)
    (sym c.deref-2.ensures) h in
    let apart : ComesApart g.row.N old_plan old_spans old c.args.plan.now c.args.spans.now c.args.at c.args.common c.in_ok-live.alike
    c.in_ok-live.live =
    apart_at g.row.N old_plan old_spans old c.args.plan.now c.args.spans.now c.args.at c.args.common c.args.standing c.in_ok-live.alike
    c.in_ok-live.live h (c.in_ok-live.ensures.stands old_plan old_spans c.args.spans.now c.args.common k)
    (subst (λ (s : RunData). BeginsWithMarked g.row.N s c.in_ok-live.live c.in_ok-live.alike) c.deref-2.ensures
    (c.in_ok-live.ensures.known old_plan old_spans c.args.spans.now c.args.common k)) in
    c.in_ok-alike.ensures.cost old_plan old_spans first
    (subst (λ (s : RunData). ComesApart g.row.N old_plan old_spans s c.args.plan.now c.args.spans.now c.args.at c.args.common
    c.in_ok-live.alike c.in_ok-live.live) (sym c.deref-3.ensures) apart) so_far
