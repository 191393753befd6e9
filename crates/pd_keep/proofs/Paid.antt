-- A run whose fresh moves are charged is paid for.
use Rattle.std.proofs.Common.{◌≡◌, ℕ, List, [], Option, None, Some, refl, subst}
use Rattle.pd_scenario.specs.Plan.{Plan}
use Rattle.pd_run.specs.Cost.{IsPaid}
use Rattle.pd_run.specs.Run.{Move, Run}
use Rattle.pd_keep.specs.declared.kept.KeptRun.{KeptRun}
use Rattle.pd_keep.specs.Cost.{IsRunOf, CostsFreshMoves}
use Rattle.pd_keep.specs.Fresh.{Running, IsCharged}
use Rattle.pd_keep.specs.Rerun.{Costs}
use Rattle.pd_keep.specs.Running.{running, Keeps}
use Rattle.pd_keep.specs.Kept.{RunData}
use Rattle.pd_keep.specs.Spans.{moves_of, IsKept}
use Rattle.pd_keep.proofs.Fresh.{all_fresh}

kept_run : (n : ℕ) (run : Option (KeptRun n)) → Keeps n run → IsRunOf (running n run).plan (running n run).moves
kept_run n None keeps = refl
kept_run n (Some run) keeps = keeps.safe.run

pub paid_fresh : (n : ℕ) (old : Option (KeptRun n)) (plan : Plan) (moves : List Move) (before after : ℕ) → Keeps n old → Run plan moves
    → IsCharged (running n old) plan moves before after → IsPaid CostsFreshMoves (running n old).plan plan before after
paid_fresh n old plan moves before after keeps run charge =
    (charge.0, ((running n old).moves, moves, kept_run n old keeps, run, charge.1), charge.2)

-- so it is where what is told of is what a runner keeps, and the plan a scenario's
pub paid_anew : (n : ℕ) (run : Option (KeptRun n)) (old : Running) (plan now : Plan) (spans : List RunData) (before after : ℕ)
    → running n run ≡ old → now ≡ plan → Keeps n run → IsKept n now spans → IsCharged (running n run) now (moves_of spans) before after
    → IsPaid CostsFreshMoves old.plan plan before after
paid_anew n run old plan now spans before after old_is now_is keeps kept charge =
    subst (λ (r : Running). IsPaid CostsFreshMoves r.plan plan before after) old_is
    (subst (λ (q : Plan). IsPaid CostsFreshMoves (running n run).plan q before after) now_is
    (paid_fresh n run now (moves_of spans) before after keeps kept.safe.run charge))

-- and beside nothing
pub charged_none : (n : ℕ) (plan : Plan) (moves : List Move) (before after : ℕ) → Costs plan [] plan moves before after
    → IsCharged (running n None) plan moves before after
charged_none n plan moves before after cost = (cost.0, all_fresh plan plan moves cost.0 cost.1, cost.2)
