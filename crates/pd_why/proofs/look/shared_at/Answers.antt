use Rattle.std.proofs.Common.{◌-◌, ◌*◌, ◌∙◌, ap, sym, arith}
use Rattle.pd_setup.specs.Settings.{SettingsData}
use Rattle.pd_why.proofs.ShareLemmas.{share_is}
use Rattle.pd_why.proofs.look.shared_at.Goals as goal

pub returns : goal.returns
returns g c = λ past stands.
    share_is c.args.plan.now past c.args.live.now (c.args.port - 1) c.args.at g.row.N (c.from-floor.result * 1000) c.force-budget.result
    c.max-free.result c.left-unheld.result c.others-others.result stands (sym c.force-budget.ensures.is_plan.settings_count) (omega arith)
    (ap (λ k. k * 1000) (c.from-floor.ensures ∙ c.floor_mw.ensures.value
    ∙ ap (λ (s : SettingsData). s.floor_mw) c.settings.ensures.settings))
    c.force-budget.ensures.force c.left-unheld.ensures c.max-free.ensures c.others-others.ensures
