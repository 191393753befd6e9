use Rattle.std.proofs.Common.{◌-◌, ◌++◌, ◌∷◌, [], sym, subst}
use Rattle.pd_run.specs.Live.{LiveData, StandsAfter, next_move}
use Rattle.pd_run.proofs.Steps.{StandsAfter-moved}
use Rattle.pd_run.proofs.StepsLeft.{steps_left_less}
use Rattle.pd_run.proofs.live.Live.step.Goals as goal

pub returns-clause-stands : goal.returns-clause-stands
returns-clause-stands g c = λ past s.
    let plan = c.args.plan.now in
    let d = c.args.due.now in
    subst (λ (l : LiveData). StandsAfter plan (past ++ next_move plan past (c.args.port - 1) d ∷ []) l) (sym c.in_ok-step.ensures.moved)
    (StandsAfter-moved g.row.N plan past c.args.self.now c.args.port d c.requires.plan s c.requires.next c.requires.budget)

pub returns-clause-less : goal.returns-clause-less
returns-clause-less g c =
    let plan = c.args.plan.now in
    let d = c.args.due.now in
    let past = c.requires.stands.0 in
    let s = c.requires.stands.1 in
    steps_left_less g.row.N plan past c.args.self.now c.step_beside.new.self (c.args.port - 1) d c.requires.plan s c.requires.next.first
    (subst (λ (l : LiveData). StandsAfter plan (past ++ next_move plan past (c.args.port - 1) d ∷ []) l) (sym c.in_ok-step.ensures.moved)
    (StandsAfter-moved g.row.N plan past c.args.self.now c.args.port d c.requires.plan s c.requires.next c.requires.budget))
