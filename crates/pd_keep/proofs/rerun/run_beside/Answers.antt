use Rattle.std.proofs.Common.{◌≡◌, ◌+◌, List, None, Some, suc, slice_get, refl, arith, ap, sym, ◌∙◌, subst}
use Rattle.std.proofs.lemmas.List.{take_all}
use Rattle.std.proofs.lemmas.Option.{slice_get_within}
use Rattle.pd_run.specs.UpTo.{AgreeAs}
use Rattle.pd_keep.specs.Kept.{RunData}
use Rattle.pd_keep.specs.declared.rerun.Common.{Common}
use Rattle.pd_keep.specs.Rerun.{ComesTo}
use Rattle.pd_keep.specs.Spans.{moves_of, end_of, begins_at}
use Rattle.pd_keep.proofs.Beside.{so_far_none, done_alike, over_from, past_all, comes_to, is_kept_of}
use Rattle.pd_keep.proofs.Parted.{end_next}
use Rattle.pd_keep.proofs.Places.{unmarked}
use Rattle.pd_keep.proofs.rerun.run_beside.Goals as goal

pub loop-at-init : goal.loop-at-init
loop-at-init g c =
    rw c.requires.none (record {
      so_far = so_far_none g.row.N c.args.plan.now c.end-end.ensures.is_plan;
      stands = record {
        stands = rw c.with_spare-live.ensures c.in_ok-new.ensures;
        known = λ p lt yes. absurd (let few = c.end-end.ensures.is_plan.few_ports in unmarked p (omega arith) yes);
      };
      begins = refl;
      beside = c.in_ok-beside.ensures.are;
      now = c.in_ok-beside.ensures.at;
      rises = omega arith;
      cost = (0, refl, omega arith);
    })

pub next_spans-requires : goal.next_spans-requires
next_spans-requires g c =
    let i = c.loop-at.invariant in
    let old = c.args.old.now in
    let old_spans : List RunData = c.args.old_spans.now in
    let spans : List RunData = c.loop-at.spans in
    let plan = c.args.plan.now in
    let at = c.loop-at.at in
    let place = c.loop-at.place in
    let s : RunData = c.in-Some.span.now.value in
    let there : slice_get old_spans place ≡ Some s = sym c.in-Some.ensures in
    let to_is : c.to.result ≡ s.to = c.to.ensures ∙ ap (λ (r : RunData). r.to) c.deref.ensures in
    let common : Common = record { agree = c.advance-agree.result; same_floors = c.have_same_floors-same_floors.result } in
    let comes : ComesTo g.row.N old old_spans s plan spans at common c.loop-at.standing =
    comes_to g.row.N old old_spans spans s plan place at c.loop-at.beside.at
    common c.loop-at.standing c.requires.old
    i.so_far i.stands i.begins there (omega arith) i.now
    (record {
      agrees = subst (λ t. AgreeAs c.advance-agree.result old plan c.loop-at.beside.at t) to_is c.advance-agree.ensures.agree;
      floors = c.have_same_floors-same_floors.ensures.0;
    }) in
    (omega arith, (omega arith, (old, old_spans, comes)))

pub loop-at-smaller : goal.loop-at-smaller
loop-at-smaller g c =
    let there : slice_get c.args.old_spans.now c.loop-at.place ≡ Some c.in-Some.span.now.value = sym c.in-Some.ensures in
    let within = slice_get_within c.args.old_spans.now c.loop-at.place c.in-Some.span.now.value there in
    omega (arith, within)

pub loop-at-preserved : goal.loop-at-preserved
loop-at-preserved g c =
    let i = c.loop-at.invariant in
    let old = c.args.old.now in
    let old_spans : List RunData = c.args.old_spans.now in
    let spans : List RunData = c.loop-at.spans in
    let plan = c.args.plan.now in
    let at = c.loop-at.at in
    let place = c.loop-at.place in
    let s : RunData = c.in-Some.span.now.value in
    let there : slice_get old_spans place ≡ Some s = sym c.in-Some.ensures in
    let to_is : c.to.result ≡ s.to = c.to.ensures ∙ ap (λ (r : RunData). r.to) c.deref.ensures in
    let common : Common = record { agree = c.advance-agree.result; same_floors = c.have_same_floors-same_floors.result } in
    let comes : ComesTo g.row.N old old_spans s plan spans at common c.loop-at.standing =
    comes_to g.row.N old old_spans spans s plan place at c.loop-at.beside.at
    common c.loop-at.standing c.requires.old
    i.so_far i.stands i.begins there (omega arith) i.now
    (record {
      agrees = subst (λ t. AgreeAs c.advance-agree.result old plan c.loop-at.beside.at t) to_is c.advance-agree.ensures.agree;
      floors = c.have_same_floors-same_floors.ensures.0;
    }) in
    let end_is : c.to-at.result ≡ s.to = c.to-at.ensures ∙ ap (λ (r : RunData). r.to) c.deref-in-loop-at.ensures in
    let one : suc place ≡ place + 1 = omega arith in
    let next : begins_at old_spans (place + 1) ≡ s.to = ap (begins_at old_spans) (sym one) ∙ end_next 0 old_spans place s there in
    rw end_is (record {
      so_far = c.in_ok-standing.ensures.so_far;
      stands = c.in_ok-standing.ensures.stands old old_spans comes;
      begins = sym next;
      beside = c.advance-agree.ensures.are;
      now = c.advance-agree.ensures.at ∙ to_is;
      rises = omega (arith, i.rises, c.next_spans.ensures.rises);
      cost = c.in_ok-standing.ensures.cost old old_spans c.args.meter.now comes i.cost;
    })

pub returns-in_default-clause-over : goal.returns-in_default-clause-over
returns-in_default-clause-over g c = λ soon.
    let i = c.loop-at.invariant in
    let old_spans : List RunData = c.args.old_spans.now in
    let none : slice_get old_spans c.loop-at.place ≡ None = sym c.in_default.ensures in
    let time : c.loop-at.at ≡ end_of 0 old_spans =
    i.begins ∙ ap (end_of 0) (take_all c.loop-at.place old_spans (past_all old_spans c.loop-at.place none)) in
    over_from g.row.N c.args.old.now old_spans c.loop-at.at c.requires.old (omega (arith, time))

pub returns-in_default-clause-done : goal.returns-in_default-clause-done
returns-in_default-clause-done g c =
    let i = c.loop-at.invariant in
    let old_spans : List RunData = c.args.old_spans.now in
    let none : slice_get old_spans c.loop-at.place ≡ None = sym c.in_default.ensures in
    let time : c.loop-at.at ≡ end_of 0 old_spans =
    i.begins ∙ ap (end_of 0) (take_all c.loop-at.place old_spans (past_all old_spans c.loop-at.place none)) in
    done_alike g.row.N c.args.old.now old_spans c.args.plan.now (moves_of c.loop-at.spans) c.loop-at.at c.loop-at.standing i.stands
    (omega (arith, time))

pub advance-agree-requires : goal.advance-agree-requires
advance-agree-requires g c =
    let i = c.loop-at.invariant in
    let old_spans : List RunData = c.args.old_spans.now in
    let place = c.loop-at.place in
    let s : RunData = c.in-Some.span.now.value in
    let there : slice_get old_spans place ≡ Some s = sym c.in-Some.ensures in
    let to_is : c.to.result ≡ s.to = c.to.ensures ∙ ap (λ (r : RunData). r.to) c.deref.ensures in
    let kept = is_kept_of g.row.N c.args.old.now old_spans place s c.requires.old there in
    let rising = kept.spanned.rising place s there in
    let now = i.now in
    let begins = i.begins in
    (omega arith, (omega arith, (i.beside, omega (arith, rising, now, begins, to_is))))

pub overflow_add-place : goal.overflow_add-place
overflow_add-place g c =
    let s : RunData = c.in-Some.span.now.value in
    let there : slice_get c.args.old_spans.now c.loop-at.place ≡ Some s = sym c.in-Some.ensures in
    let within = slice_get_within c.args.old_spans.now c.loop-at.place s there in
    let count = c.count-places.ensures in
    omega (arith, within, count)
