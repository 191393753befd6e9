use Rattle.std.proofs.Common.{◌≡◌, ◌-◌, ◌+◌, ◌++◌, ◌∷◌, ℕ, [], List, length, map, arith, ap, append_assoc, ◌∙◌}
use Rattle.std.proofs.lemmas.Result.{on_ok_weaker}
use Rattle.pd_port.specs.declared.entry.Entry.{Entry}
use Rattle.pd_run.specs.Run.{Move, shown}
use Rattle.pd_run.specs.Live.{LiveData, next_move}
use Rattle.pd_run.specs.StepsLeft.{steps_left}
use Rattle.pd_warn.specs.declared.warning.Warning.{Warning}
use Rattle.pd_watch.specs.Watch.{WatchData, after_steps, all_at_rest}
use Rattle.pd_watch.proofs.Watched.{step_length}
use Rattle.pd_warn.specs.Warnings.{left_part, run_part, steps_part}
use Rattle.pd_warn.proofs.Steps.{parts_more, watched_more}
use Rattle.pd_warn.proofs.run.push_run.Goals as goal

pub step-requires : goal.step-requires
step-requires g c =
    let i = c.loop-port.invariant in
    let stands = c.reply-answer.ensures.stands i.moves i.stands in
    let next = c.reply-answer.ensures.next c.in-Some.ensures.next in
    let budget = ap (λ (l : LiveData). l.account.budget) c.reply-answer.ensures.budget in
    (omega arith, (omega arith, (c.in-Some.ensures.is_plan, ((i.moves, stands), (next, (budget, c.reply-answer.ensures.answer))))))

pub loop-port-smaller : goal.loop-port-smaller
loop-port-smaller g c =
    let same : steps_left c.args.plan.now c.reply-answer.new.self ≡ steps_left c.args.plan.now c.loop-port.live =
    ap (steps_left c.args.plan.now) c.reply-answer.ensures.budget in
    omega (arith, c.in_ok-entry.ensures.less)

pub loop-port-preserved : goal.loop-port-preserved
loop-port-preserved g c =
    let plan = c.args.plan.now in
    let i = c.loop-port.invariant in
    let next = c.in-Some.ensures.next in
    let p = c.in-Some.port - 1 in
    let stands = c.reply-answer.ensures.stands i.moves i.stands in
    let m : Move = next_move plan i.moves p c.in-Some.due in
    let entry : c.in_ok-entry.entry ≡ m.entry = c.in_ok-entry.ensures.entry i.moves stands in
    let port : c.in-Some.port ≡ p + 1 = omega (arith, next.from_one) in
    let s : ℕ × Entry = (c.in-Some.port, c.in_ok-entry.entry) in
    let is : s ≡ shown m =
    ap (λ (e : Entry). let r : ℕ × Entry = (c.in-Some.port, e) in r) entry ∙ ap (λ n. let r : ℕ × Entry = (n, m.entry) in r) port in
    record {
      moves = i.moves ++ m ∷ [];
      stands = c.in_ok-entry.ensures.stands i.moves stands;
      parts =
          parts_more c.args.out.now.items c.loop-port.out.items _ (all_at_rest g.row.N) c.loop-port.watches.items i.moves m s is
          i.parts i.watched
          c.in_ok-push_step.ensures.warnings;
      watched =
          watched_more (all_at_rest g.row.N) c.loop-port.watches.items _ i.moves m s is i.watched c.in_ok-push_step.ensures.watches;
      count =
          ap length c.in_ok-push_step.ensures.watches ∙ step_length c.loop-port.watches.items s ∙ i.count;
    }

pub returns : goal.returns
unfolding run_part
returns g c =
    let i = c.loop-port.invariant in
    let old : List Warning = c.args.out.now.items in
    let steps : List (ℕ × Entry) = map shown i.moves in
    let ws : List WatchData = all_at_rest g.row.N in
    on_ok_weaker c.push_left.result
    (λ h. record {
      moves = i.moves;
      safe = c.in_default.ensures.next i.moves i.stands;
      warnings_are =
          h ∙ ap (λ (v : List WatchData). c.loop-port.out.items ++ left_part 1 v) (c.as_slice.ensures.value ∙ i.watched)
          ∙ ap (λ (v : List Warning). v ++ left_part 1 (after_steps ws steps)) i.parts
          ∙ append_assoc old (steps_part ws steps) (left_part 1 (after_steps ws steps));
    })
    c.push_left.ensures
