use Rattle.std.proofs.Common.{◌≡◌, ◌-◌, ◌∙◌, ap, arith, refl}
use Rattle.pd_run.specs.Live.{next_move}
use Rattle.pd_port.specs.Port.{PortData}
use Rattle.pd_run.specs.StepsLeft.{steps_left}
use Rattle.pd_show.specs.Seen.{glance}
use Rattle.pd_show.proofs.SeenLemmas.{seen_is, watched_is}
use Rattle.pd_show.proofs.seen.step_seen.Goals as goal

pub returns-clause-seen : goal.returns-clause-seen
returns-clause-seen g c = λ past stands.
    let replied = c.reply-answer.ensures.stands past stands in
    seen_is c.args.plan.now c.args.watches.now.items past c.args.live.now c.step.new.self c.args.port c.force.result c.args.due.now
    c.glimpse-before.result c.glimpse-after.result c.in_ok-entry.entry c.reply-answer.result c.in_ok-by.by c.requires.next.from_one
    c.requires.next.first.known stands
    (c.in_ok-entry.ensures.stands past replied) c.force.ensures.force
    (c.glimpse-before.ensures ∙ ap (λ (q : PortData). glance q.settings q.port_record) c.port.ensures)
    (c.glimpse-after.ensures ∙ ap (λ (q : PortData). glance q.settings q.port_record) c.port-2.ensures)
    (c.in_ok-entry.ensures.entry past replied) (c.reply-answer.ensures.known past stands) c.in_ok-by.ensures.by

pub returns-clause-watched : goal.returns-clause-watched
returns-clause-watched g c = λ past stands.
    c.in_ok-by.ensures.after
    ∙ watched_is c.args.watches.now.items c.args.port c.in_ok-entry.entry (next_move c.args.plan.now past (c.args.port - 1) c.args.due.now)
    c.requires.next.from_one refl (c.in_ok-entry.ensures.entry past (c.reply-answer.ensures.stands past stands))

pub returns-clause-less : goal.returns-clause-less
returns-clause-less g c =
    let same : steps_left c.args.plan.now c.reply-answer.new.self ≡ steps_left c.args.plan.now c.args.live.now =
    ap (steps_left c.args.plan.now) c.reply-answer.ensures.budget in
    omega (arith, c.in_ok-entry.ensures.less)
