use Rattle.std.proofs.Common.{◌≡◌, ⊎_elim, ◌-◌, true, false, IsTrue, List, ap, sym, ◌∙◌, subst, arith, slice_index, slice_index_or}
use Rattle.std.proofs.lemmas.List.{get_or_default}
use Rattle.pd_run.specs.Live.{LiveData}
use Rattle.pd_keep.specs.Following.{IsPassing, HasPassed}
use Rattle.pd_keep.specs.Kept.{KeptData, move_of}
use Rattle.pd_keep.proofs.Following.{passing_few, passing_holds, passed_answered, passed_quiet, passed_still, some_kept}
use Rattle.pd_keep.proofs.follow.passes.Goals as goal

pub pass-requires : goal.pass-requires
pass-requires g c =
    let r = c.requires.passing in
    let k : KeptData = slice_index_or c.args.old.now.moves c.args.at some_kept in
    let h : IsPassing c.args.plan.now r.0 r.1 r.2 c.args.live.now k = r.3 some_kept in
    let brief = c.requires.brief some_kept in
    let port = brief.port in
    let is = c.end-end.ensures.is_plan in
    let from_one = h.own.from_one in
    let known = h.next.first.known in
    let count = is.settings_count in
    let same = ap (λ p. slice_index c.args.live.now.taken (p - 1)) port in (
      omega arith,
      (
        omega arith,
        (
          omega arith,
          λ e.
              let few = passing_few g.row.N c.args.plan.now r.0 r.1 r.2 c.args.live.now k is h (sym brief.event ∙ e) in
              omega arith,
        ),
      ),
    )

pub returns-then-is_known-clause-passed : goal.returns-then-is_known-clause-passed
returns-then-is_known-clause-passed g c = λ _ past away whole d passing answered.
    let plan = c.args.plan.now in
    subst (λ (l : LiveData). HasPassed plan past away whole l (slice_index_or c.args.old.now.moves c.args.at d)) (sym c.pass.ensures)
    (⊎_elim
    (λ (quiet : c.args.brief.now.stirs ≡ false).
    passed_quiet g.row.N plan past away whole c.args.live.now (slice_index_or c.args.old.now.moves c.args.at d) c.args.brief.now
    c.end-end.ensures.is_plan passing (c.requires.brief d) quiet)
    (λ (alike : IsTrue c.args.same_holds × (c.args.brief.now.keeps_hold ≡ true)).
    passed_still g.row.N plan past away whole c.args.live.now (slice_index_or c.args.old.now.moves c.args.at d) c.args.brief.now
    c.end-end.ensures.is_plan passing (c.requires.brief d) (answered alike.0) ((c.requires.brief d).keeps.0 alike.1))
    (c.is_known.ensures.0 c.if-is_known.true))

pub follow-requires : goal.follow-requires
follow-requires g c =
    let plan = c.args.plan.now in
    let k : KeptData = c.kept-kept.result.now in
    let v : KeptData = record {
      port = c.port.result;
      before = k.before;
      due = c.entry.result.now.due;
      answer = c.answer.result.now;
      after = k.after;
      entry = c.entry.result.now;
    } in
    let is_kept : v ≡ k = λ i. record {
      port = c.port.ensures i;
      before = k.before;
      due = c.entry.ensures.due i;
      answer = c.answer.ensures i;
      after = k.after;
      entry = c.entry.ensures.entry i;
    } in
    let read : v ≡ slice_index_or c.args.old.now.moves c.args.at v = is_kept ∙ c.kept-kept.ensures v in
    let past = c.requires.passing.0 in
    let away = c.requires.passing.1 in
    let whole = c.requires.passing.2 in
    let h : IsPassing plan past away whole c.args.live.now v =
    subst (λ (m : KeptData). IsPassing plan past away whole c.args.live.now m) (sym read) (c.requires.passing.3 v) in
    let holds = passing_holds plan past away whole c.args.live.now v c.left.result h c.left.ensures in (
      omega arith,
      (
        omega arith,
        (
          (past, move_of v, holds),
          λ e.
              passing_few g.row.N plan past away whole c.args.live.now v c.end-end.ensures.is_plan h e,
        ),
      ),
    )

pub returns-clause-passed : goal.returns-clause-passed
returns-clause-passed g c = λ told past away whole d passing alike.
    let plan = c.args.plan.now in
    let moves : List KeptData = c.args.old.now.moves in
    let k : KeptData = c.kept-kept.result.now in
    let v : KeptData = record {
      port = c.port.result;
      before = k.before;
      due = c.entry.result.now.due;
      answer = c.answer.result.now;
      after = k.after;
      entry = c.entry.result.now;
    } in
    let is_kept : v ≡ k = λ i. record {
      port = c.port.ensures i;
      before = k.before;
      due = c.entry.ensures.due i;
      answer = c.answer.ensures i;
      after = k.after;
      entry = c.entry.ensures.entry i;
    } in
    let read : v ≡ slice_index_or moves c.args.at v = is_kept ∙ c.kept-kept.ensures v in
    let is : slice_index_or moves c.args.at d ≡ v = get_or_default moves c.args.at d v c.requires.inside ∙ sym read in
    let h : IsPassing plan past away whole c.args.live.now v =
    subst (λ (m : KeptData). IsPassing plan past away whole c.args.live.now m) is passing in
    let holds = passing_holds plan past away whole c.args.live.now v c.left.result h c.left.ensures in
    let answered = (c.follow.ensures.answered past (move_of v) holds).0 told in
    subst (λ (m : KeptData). HasPassed plan past away whole c.follow.new.self m) (sym is)
    (passed_answered g.row.N plan past away whole c.args.live.now c.follow.new.self v c.left.result c.end-end.ensures.is_plan h
    answered c.left.ensures (c.follow.ensures.followed told))
