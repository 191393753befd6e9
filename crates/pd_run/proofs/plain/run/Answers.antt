use Rattle.std.proofs.Common.{◌≡◌, ◌-◌, ◌+◌, ◌++◌, ◌∷◌, [], map, arith, ap, sym, ◌∙◌}
use Rattle.std.proofs.lemmas.List.{map-append, length_push}
use Rattle.pd_port.specs.declared.entry.Entry.{Entry}
use Rattle.pd_run.specs.Run.{Move, shown}
use Rattle.pd_run.specs.Live.{LiveData, next_move}
use Rattle.pd_run.specs.StepsLeft.{steps_left}
use Rattle.pd_run.proofs.plain.run.Goals as goal

pub step-requires : goal.step-requires
step-requires g c =
    let i = c.loop-port.invariant in
    let stands = c.reply-answer.ensures.stands i.moves i.stands in
    let next = c.reply-answer.ensures.next c.in-Some.ensures.next in
    let budget = ap (λ (l : LiveData). l.account.budget) c.reply-answer.ensures.budget in
    (omega arith, (omega arith, (c.in-Some.ensures.is_plan, ((i.moves, stands), (next, (budget, c.reply-answer.ensures.answer))))))

pub loop-port-init : goal.loop-port-init
loop-port-init g c = record {
  moves = [];
  stands = c.in_ok-live.ensures;
  entries = c.new-entries.ensures.items;
  cost = omega arith;
}

pub loop-port-smaller : goal.loop-port-smaller
loop-port-smaller g c =
    let same : steps_left c.args.plan.now c.reply-answer.new.self ≡ steps_left c.args.plan.now c.loop-port.live =
    ap (steps_left c.args.plan.now) c.reply-answer.ensures.budget in
    omega (arith, c.in_ok-entry.ensures.less)

pub loop-port-preserved : goal.loop-port-preserved
loop-port-preserved g c =
    let plan = c.args.plan.now in
    let i = c.loop-port.invariant in
    let next = c.in-Some.ensures.next in
    let p = c.in-Some.port - 1 in
    let d = c.in-Some.due in
    let stands = c.reply-answer.ensures.stands i.moves i.stands in
    let m : Move = next_move plan i.moves p d in
    let one_more = length_push i.moves m in
    let entry : c.in_ok-entry.entry ≡ m.entry = c.in_ok-entry.ensures.entry i.moves stands in
    let port : c.in-Some.port ≡ p + 1 = omega (arith, next.from_one) in
    record {
      moves = i.moves ++ m ∷ [];
      stands = c.in_ok-entry.ensures.stands i.moves stands;
      entries = c.in_ok-push.ensures.items ∙ ap (λ es. es ++ (c.in-Some.port, c.in_ok-entry.entry) ∷ []) i.entries
          ∙ ap (λ (e : Entry). map shown i.moves ++ (c.in-Some.port, e) ∷ []) entry
          ∙ ap (λ k. map shown i.moves ++ (k, m.entry) ∷ []) port ∙ sym (map-append shown i.moves (m ∷ []));
      cost = omega (arith, c.in_ok-entry.ensures.meter, i.cost);
    }

pub returns-clause-run : goal.returns-clause-run
returns-clause-run g c =
    let i = c.loop-port.invariant in
    record { moves = i.moves; safe = c.in_default.ensures.next i.moves i.stands; entries_are = i.entries }
