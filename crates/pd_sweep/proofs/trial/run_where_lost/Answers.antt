use Rattle.std.proofs.Common.{ℕ, ◌<◌, ◌≤◌, length, lit<, subst, sym}
use Rattle.pd_scenario.specs.Plan.{Plan, script_of}
use Rattle.pd_sweep.proofs.LostLemmas.{few_events, scripts_of_ports}
use Rattle.pd_sweep.proofs.trial.run_where_lost.Goals as goal

pub losing-requires : goal.losing-requires
losing-requires g c =
    let s = c.args.scenario.now in
    let valid = c.events-events.ensures.is_valid in
    let Few : Plan → Type 0 = λ plan. (p : ℕ) → p < g.row.N → (p < length plan.scripts) × (length (script_of plan p) ≤ 4096) in (
      lit< tt,
      (
        c.requires.known,
        subst Few (sym c.requires.plan)
            (λ p known. (scripts_of_ports g.row.N s valid p known, few_events g.row.N s valid p known)),
      ),
    )
