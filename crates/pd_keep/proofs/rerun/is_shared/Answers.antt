use Rattle.std.proofs.Common.{ℕ, Bool, List, IsTrue, map, arith}
use Rattle.std.proofs.lemmas.Result.{IfOk-weaker}
use Rattle.pd_scenario.specs.Plan.{Plan}
use Rattle.pd_run.specs.Order.{EachAfter}
use Rattle.pd_run.specs.Run.{Move, IsAnswered}
use Rattle.pd_keep.specs.Kept.{RunData, move_of}
use Rattle.pd_keep.specs.Rerun.{ComesTo, IsShared, GoesOnWith}
use Rattle.pd_keep.specs.Spans.{moves_of}
use Rattle.pd_keep.proofs.Beside.{known_at, shares_both, shares_answered, goes_on_with}
use Rattle.pd_keep.proofs.rerun.is_shared.Goals as goal

pub stands_alike-requires : goal.stands_alike-requires
stands_alike-requires g c =
    let h = c.requires.comes in
    let known = known_at g.row.N h.0 h.1 c.args.old.now c.args.plan.now h.2 h.3 c.args.common c.args.standing.now h.4 in
    (omega arith, (h.4.far.is_plan.few_ports, known))

pub stands_alike-requires-in-Scripts : goal.stands_alike-requires-in-Scripts
stands_alike-requires-in-Scripts g c =
    let h = c.requires.comes in
    let known = known_at g.row.N h.0 h.1 c.args.old.now c.args.plan.now h.2 h.3 c.args.common c.args.standing.now h.4 in
    (omega arith, (h.4.far.is_plan.few_ports, known))

pub are_answered-requires : goal.are_answered-requires
are_answered-requires g c =
    let h = c.requires.comes in
    let standing = c.stands_alike-in-Scripts.ensures.0 c.if-not-stands_alike.false in (
      omega arith,
      (
        moves_of h.2,
        goes_on_with g.row.N h.0 h.1 c.args.old.now c.args.plan.now h.2 h.3 c.args.common c.args.standing.now
            c.in-Scripts.is h.4 standing,
      ),
    )

pub returns-in-Both : goal.returns-in-Both
returns-in-Both g c = λ yes old_plan old_spans spans at h.
    shares_both g.row.N old_plan old_spans c.args.old.now c.args.plan.now spans at c.args.common c.args.standing.now c.in-Both.is h
    (c.stands_alike.ensures.0 yes)

pub returns-else-not-stands_alike : goal.returns-else-not-stands_alike
returns-else-not-stands_alike g c =
    let plan = c.args.plan.now in
    let old : RunData = c.args.old.now in
    let standing = c.stands_alike-in-Scripts.ensures.0 c.if-not-stands_alike.false in
    IfOk-weaker c.are_answered.result
    (λ (same : Bool). IsTrue same → (past : List Move) → GoesOnWith g.row.N plan past old
    → EachAfter (IsAnswered plan) past (map move_of old.moves))
    (λ (same : Bool). IsTrue same → (old_plan : Plan) (old_spans : List RunData) (spans : List RunData) (at : ℕ)
    → ComesTo g.row.N old_plan old_spans old plan spans at c.args.common c.args.standing.now
    → IsShared g.row.N old_plan old_spans old plan (moves_of spans) at)
    (λ same answered yes old_plan old_spans spans at h.
    shares_answered g.row.N old_plan old_spans old plan spans at c.args.common c.args.standing.now c.in-Scripts.is h standing
    (answered yes))
    c.are_answered.ensures
