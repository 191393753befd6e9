use Rattle.std.proofs.Common.{◌∙◌, inr, ap, map, reverse, subst, sym, arith, lit<}
use Rattle.std.specs.List.{AllByRecursion}
use Rattle.std.proofs.lemmas.Result.{err_from_is_err_and}
use Rattle.pd_sweep.specs.Lost.{IsOfRun}
use Rattle.pd_sweep.specs.Parts.{part_of}
use Rattle.pd_sweep.specs.Sets.{AreOfRun, are_any}
use Rattle.pd_sweep.specs.Trials.{IsNext}
use Rattle.pd_sweep.specs.declared.sets.Packets.TheVariants.{One}
use Rattle.pd_sweep.proofs.SetLemmas.{alone_known}
use Rattle.pd_sweep.proofs.SweepLemmas.{all_of_part, began_closing, began_head, began_so_far, began_torn, next_known, progress_more}
use Rattle.pd_sweep.proofs.SweepLemmas.{progress_none, room, whole_part, wrote}
use Rattle.pd_sweep.proofs.TriesLemmas.{leads_somewhere}
use Rattle.pd_sweep.proofs.walk.sweep.Goals as goal

pub returns-in_err-write_head-clause-text : goal.returns-in_err-write_head-clause-text
returns-in_err-write_head-clause-text g c =
    let p = err_from_is_err_and c.from_residual-in_err-write_head.result c.from_residual-in_err-write_head.ensures.1 in
    rw (p.1) (inr (began_head g.row.N c.args.scenario.now c.args.campaign.now c.args.look c.in_ok-base.base.findings
    (map One (part_of c.args.part c.in-Ok-chosen.targets.items)) c.args.part (g.T.Runner.entries c.replace.new.self) c.in-Ok.ensures.run
    c.in_ok-base.ensures.value.found (ap (λ l. map One (part_of c.args.part l)) c.in-Ok-chosen.ensures.value) _ _
    c.in_err-write_head.ensures.text.1))

pub loop-packets-init : goal.loop-packets-init
loop-packets-init g c =
    let targets = c.in-Ok-chosen.targets.items in
    let are = c.in_ok-waiting.ensures.value ∙ ap (map One) (c.part_of.ensures ∙ ap (part_of c.args.part) c.as_slice.ensures.value) in
    record {
      progress =
          progress_none g.row.N c.args.scenario.now c.args.campaign.now c.args.look c.in_ok-base.base.findings
          (map One (part_of c.args.part targets)) (reverse c.in_ok-waiting.waiting.items) c.none-sums.result _ _ are
          (subst (AllByRecursion (AreOfRun g.row.N)) (sym are)
          (alone_known g.row.N (part_of c.args.part targets)
          (all_of_part (IsOfRun g.row.N) c.args.part targets c.in-Ok-chosen.ensures.known)))
          c.none-sums.ensures c.in_ok-write_head.ensures.text;
      counts = c.in_ok-write_head.ensures.counts;
    }

pub try_packets-requires : goal.try_packets-requires
try_packets-requires g c =
    let next =
    subst (IsNext c.loop-packets.left (reverse c.loop-packets.waiting.items) (reverse c.next_of.new.waiting.items)) c.in-Some.is
    c.next_of.ensures in
    let known = next_known g.row.N _ _ _ c.in-Some.packets next c.loop-packets.invariant.progress.known in (
      lit< tt,
      (
        lit< tt,
        (
          record {
            moves = g.T.Runner.entries c.replace.new.self;
            shows = c.in-Ok.ensures.run;
            is = c.in_ok-base.ensures.value;
          },
          (c.in_ok-plan.ensures.value, known.0),
        ),
      ),
    )

pub returns-in_err-trial-clause-text : goal.returns-in_err-trial-clause-text
returns-in_err-trial-clause-text g c =
    let p = err_from_is_err_and c.from_residual-in_err-trial.result c.from_residual-in_err-trial.ensures.1 in
    rw (p.1) (inr (began_so_far g.row.N c.args.scenario.now c.args.campaign.now c.args.look c.in_ok-base.base.findings
    (map One (part_of c.args.part c.in-Ok-chosen.targets.items)) c.args.part (g.T.Runner.entries c.replace.new.self) c.in-Ok.ensures.run
    c.in_ok-base.ensures.value.found (ap (λ l. map One (part_of c.args.part l)) c.in-Ok-chosen.ensures.value)
    _ c.loop-packets.left c.loop-packets.sums _ _ c.loop-packets.invariant.progress))

pub returns-in_err-line-clause-text : goal.returns-in_err-line-clause-text
returns-in_err-line-clause-text g c =
    let p = err_from_is_err_and c.from_residual-in_err-line.result c.from_residual-in_err-line.ensures.1 in
    rw (p.1) (inr (began_so_far g.row.N c.args.scenario.now c.args.campaign.now c.args.look c.in_ok-base.base.findings
    (map One (part_of c.args.part c.in-Ok-chosen.targets.items)) c.args.part (g.T.Runner.entries c.replace.new.self) c.in-Ok.ensures.run
    c.in_ok-base.ensures.value.found (ap (λ l. map One (part_of c.args.part l)) c.in-Ok-chosen.ensures.value)
    _ c.loop-packets.left c.loop-packets.sums _ _ c.loop-packets.invariant.progress))

pub returns-in_err-write_line-clause-text : goal.returns-in_err-write_line-clause-text
returns-in_err-write_line-clause-text g c =
    let next =
    subst (IsNext c.loop-packets.left (reverse c.loop-packets.waiting.items) (reverse c.next_of.new.waiting.items)) c.in-Some.is
    c.next_of.ensures in
    let trial = c.in_ok-trial.trial in
    let p = err_from_is_err_and c.from_residual-in_err-write_line.result c.from_residual-in_err-write_line.ensures.1 in
    rw (p.1) (inr (began_torn g.row.N c.args.scenario.now c.args.campaign.now c.args.look c.in_ok-base.base.findings
    (map One (part_of c.args.part c.in-Ok-chosen.targets.items)) c.args.part (g.T.Runner.entries c.replace.new.self) c.in-Ok.ensures.run
    c.in_ok-base.ensures.value.found (ap (λ l. map One (part_of c.args.part l)) c.in-Ok-chosen.ensures.value)
    _ _ c.loop-packets.left c.loop-packets.sums _ _ _ c.in-Some.packets trial c.loop-packets.invariant.progress next
    c.in_ok-trial.ensures.packets c.in_ok-trial.ensures.value
    (leads_somewhere c.args.scenario.now c.args.campaign.now g.row.N trial c.in_ok-trial.ensures.value)
    (rw (sym c.in_ok-line.ensures.value, sym c.as_slice-in-Some.ensures.value) c.in_err-write_line.ensures.text.1)))

pub go_on-requires : goal.go_on-requires
go_on-requires g c =
    let next =
    subst (IsNext c.loop-packets.left (reverse c.loop-packets.waiting.items) (reverse c.next_of.new.waiting.items)) c.in-Some.is
    c.next_of.ensures in
    let known = next_known g.row.N _ _ _ c.in-Some.packets next c.loop-packets.invariant.progress.known in
    (lit< tt, (subst (AreOfRun g.row.N) (sym c.in_ok-trial.ensures.packets) known.0, c.in_ok-trial.ensures.stands))

pub returns-in_err-go_on-clause-text : goal.returns-in_err-go_on-clause-text
returns-in_err-go_on-clause-text g c =
    let next =
    subst (IsNext c.loop-packets.left (reverse c.loop-packets.waiting.items) (reverse c.next_of.new.waiting.items)) c.in-Some.is
    c.next_of.ensures in
    let trial = c.in_ok-trial.trial in
    let p = err_from_is_err_and c.from_residual-in_err-go_on.result c.from_residual-in_err-go_on.ensures.1 in
    rw (p.1) (inr (began_torn g.row.N c.args.scenario.now c.args.campaign.now c.args.look c.in_ok-base.base.findings
    (map One (part_of c.args.part c.in-Ok-chosen.targets.items)) c.args.part (g.T.Runner.entries c.replace.new.self) c.in-Ok.ensures.run
    c.in_ok-base.ensures.value.found (ap (λ l. map One (part_of c.args.part l)) c.in-Ok-chosen.ensures.value)
    _ _ c.loop-packets.left c.loop-packets.sums _ _ _ c.in-Some.packets trial c.loop-packets.invariant.progress next
    c.in_ok-trial.ensures.packets c.in_ok-trial.ensures.value
    (leads_somewhere c.args.scenario.now c.args.campaign.now g.row.N trial c.in_ok-trial.ensures.value)
    (whole_part _ _ _ (rw (sym c.in_ok-line.ensures.value, sym c.as_slice-in-Some.ensures.value) c.in_ok-write_line.ensures.text))))

pub after-sums-requires : goal.after-sums-requires
after-sums-requires g c =
    let next =
    subst (IsNext c.loop-packets.left (reverse c.loop-packets.waiting.items) (reverse c.next_of.new.waiting.items)) c.in-Some.is
    c.next_of.ensures in
    room g.row.N c.args.scenario.now c.args.campaign.now c.args.look c.in_ok-base.base.findings
    (map One (part_of c.args.part c.in-Ok-chosen.targets.items)) _ c.loop-packets.left c.loop-packets.sums _ _
    c.loop-packets.invariant.progress next.0 (omega arith)

pub overflow_sub-left : goal.overflow_sub-left
overflow_sub-left g c =
    let next =
    subst (IsNext c.loop-packets.left (reverse c.loop-packets.waiting.items) (reverse c.next_of.new.waiting.items)) c.in-Some.is
    c.next_of.ensures in
    let some = next.0 in
    omega arith

pub loop-packets-preserved : goal.loop-packets-preserved
loop-packets-preserved g c =
    let next =
    subst (IsNext c.loop-packets.left (reverse c.loop-packets.waiting.items) (reverse c.next_of.new.waiting.items)) c.in-Some.is
    c.next_of.ensures in
    let some = next.0 in
    record {
      progress =
          progress_more g.row.N c.args.scenario.now c.args.campaign.now c.args.look c.in_ok-base.base.findings
          (map One (part_of c.args.part c.in-Ok-chosen.targets.items)) _ _ _ c.loop-packets.left _ c.loop-packets.sums
          c.after-sums.result _ _ _ c.in-Some.packets c.in_ok-trial.trial c.loop-packets.invariant.progress next
          c.in_ok-trial.ensures.packets c.in_ok-trial.ensures.value c.in_ok-go_on.ensures.value (omega arith) c.after-sums.ensures
          (rw (sym c.in_ok-line.ensures.value, sym c.as_slice-in-Some.ensures.value) c.in_ok-write_line.ensures.text);
      counts = c.in_ok-write_line.ensures.counts ∙ c.loop-packets.invariant.counts;
    }

pub returns-in_err-text-clause-text : goal.returns-in_err-text-clause-text
returns-in_err-text-clause-text g c =
    let p = err_from_is_err_and c.from_residual-in_err-text.result c.from_residual-in_err-text.ensures.1 in
    rw (p.1) (inr (began_so_far g.row.N c.args.scenario.now c.args.campaign.now c.args.look c.in_ok-base.base.findings
    (map One (part_of c.args.part c.in-Ok-chosen.targets.items)) c.args.part (g.T.Runner.entries c.replace.new.self) c.in-Ok.ensures.run
    c.in_ok-base.ensures.value.found (ap (λ l. map One (part_of c.args.part l)) c.in-Ok-chosen.ensures.value)
    _ c.loop-packets.left c.loop-packets.sums _ _ c.loop-packets.invariant.progress))

pub returns-in_err-write_all-clause-text : goal.returns-in_err-write_all-clause-text
returns-in_err-write_all-clause-text g c =
    let next =
    subst (IsNext c.loop-packets.left (reverse c.loop-packets.waiting.items) (reverse c.next_of.new.waiting.items)) c.in_default-next_of.is
    c.next_of.ensures in
    let p = err_from_is_err_and c.from_residual-in_err-write_all.result c.from_residual-in_err-write_all.ensures.1 in
    let left = c.are_any-are_left.ensures ∙ ap (λ l. are_any (reverse l)) c.as_slice-2.ensures.value ∙ ap are_any next.0 in
    rw (p.1) (inr (began_closing g.row.N c.args.scenario.now c.args.campaign.now c.args.look c.in_ok-base.base.findings
    (map One (part_of c.args.part c.in-Ok-chosen.targets.items)) c.args.part (g.T.Runner.entries c.replace.new.self) c.in-Ok.ensures.run
    c.in_ok-base.ensures.value.found (ap (λ l. map One (part_of c.args.part l)) c.in-Ok-chosen.ensures.value)
    _ c.loop-packets.left c.loop-packets.sums c.are_any-are_left.result _ _ _ c.loop-packets.invariant.progress left
    (rw (sym c.in_ok-text.ensures.value, sym c.as_slice-3.ensures.value) c.in_err-write_all.ensures.text.1)))

pub returns-clause-text : goal.returns-clause-text
returns-clause-text g c =
    let next =
    subst (IsNext c.loop-packets.left (reverse c.loop-packets.waiting.items) (reverse c.next_of.new.waiting.items)) c.in_default-next_of.is
    c.next_of.ensures in
    let left = c.are_any-are_left.ensures ∙ ap (λ l. are_any (reverse l)) c.as_slice-2.ensures.value in
    wrote g.row.N c.args.scenario.now c.args.campaign.now c.args.look c.in_ok-base.base.findings
    (map One (part_of c.args.part c.in-Ok-chosen.targets.items)) c.args.part (g.T.Runner.entries c.replace.new.self) c.in-Ok.ensures.run
    c.in_ok-base.ensures.value.found (ap (λ l. map One (part_of c.args.part l)) c.in-Ok-chosen.ensures.value)
    _ _ c.loop-packets.left c.loop-packets.sums c.are_any-are_left.result _ _ _ c.loop-packets.invariant.progress next left
    (rw (sym c.in_ok-text.ensures.value, sym c.as_slice-3.ensures.value) c.in_ok-write_all.ensures.text)
