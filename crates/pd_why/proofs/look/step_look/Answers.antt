use Rattle.std.proofs.Common.{◌≡◌, ◌-◌, ◌*◌, ◌∙◌, ap, arith}
use Rattle.pd_setup.specs.Settings.{SettingsData}
use Rattle.pd_port.specs.Port.{PortData, PortRecord}
use Rattle.pd_run.specs.StepsLeft.{steps_left}
use Rattle.pd_why.proofs.LookLemmas.{look_is, record_at, seen, shown_is}
use Rattle.pd_why.proofs.look.step_look.Goals as goal

pub returns-clause-look : goal.returns-clause-look
returns-clause-look g c = λ past stands.
    let p = c.args.port - 1 in
    let d = c.args.due.now in
    let tries = c.identity_tries-tries.result in
    let floor = c.from-floor.result * 1000 in
    let entry = c.in_ok-entry.entry in
    let answer = c.reply-answer.result in
    let share = c.share_if-share.result in
    let old : PortRecord = c.port.result.now.port_record in
    let new : PortRecord = c.port-stands.result.now.port_record in
    let replied = c.reply-answer.ensures.stands past stands in
    shown_is c.args.port tries floor d old new c.stood_at-stood.result c.source_state.result c.source_state-2.result c.learnt.result
    c.sink_state.result c.asks_in.result c.wish_of.result entry answer share c.stood_at-stood.ensures c.source_state.ensures
    c.source_state-2.ensures c.learnt.ensures c.sink_state.ensures c.asks_in.ensures c.wish_of.ensures
    ∙ ap (λ (q : PortData). seen c.args.port tries floor d q.port_record new entry answer share) c.port.ensures
    ∙ ap (λ (q : PortData). seen c.args.port tries floor d (record_at c.args.live.now p) q.port_record entry answer share)
    c.port-stands.ensures
    ∙ look_is c.args.plan.now past c.args.live.now c.step.new.self c.args.port tries floor d entry answer share c.requires.next.from_one
    c.requires.next.first.known stands (c.in_ok-entry.ensures.stands past replied)
    (c.identity_tries-tries.ensures.value ∙ ap (λ (s : SettingsData). s.identity_tries) c.settings-settings.ensures.settings)
    (ap (λ k. k * 1000) (c.from-floor.ensures ∙ c.floor_mw.ensures.value
    ∙ ap (λ (s : SettingsData). s.floor_mw) c.settings-settings.ensures.settings))
    (c.in_ok-entry.ensures.entry past replied) (c.reply-answer.ensures.known past stands) (c.share_if-share.ensures past replied)

pub returns-clause-less : goal.returns-clause-less
returns-clause-less g c =
    let same : steps_left c.args.plan.now c.reply-answer.new.self ≡ steps_left c.args.plan.now c.args.live.now =
    ap (steps_left c.args.plan.now) c.reply-answer.ensures.budget in
    omega (arith, c.in_ok-entry.ensures.less)
