use Rattle.std.proofs.Common.{◌≡◌, ◌-◌, Some, slice_get, arith, sym}
use Rattle.std.proofs.lemmas.Option.{slice_get_within}
use Rattle.pd_setup.specs.Events.{EventData}
use Rattle.pd_scenario.specs.Plan.{script_of}
use Rattle.pd_run.proofs.Until.{had_more, had_all, had_past}
use Rattle.pd_run.proofs.had.had_by.Goals as goal

pub returns-then-at : goal.returns-then-at
returns-then-at g c =
    let script = script_of c.args.plan.now (c.args.port - 1) in
    let e : EventData = c.in-Some.event.now in
    let get : slice_get script c.loop-event.had ≡ Some e = sym c.in-Some.ensures.event in
    had_all c.args.at script c.loop-event.had e c.loop-event.invariant get (omega (arith, c.at.ensures.value))

pub overflow_add-had : goal.overflow_add-had
overflow_add-had g c =
    let script = script_of c.args.plan.now (c.args.port - 1) in
    let e : EventData = c.in-Some.event.now in
    let get : slice_get script c.loop-event.had ≡ Some e = sym c.in-Some.ensures.event in
    let inside = slice_get_within script c.loop-event.had e get in
    omega (arith, c.event.ensures.is_plan.brief (c.args.port - 1) (omega arith))

pub loop-event-smaller : goal.loop-event-smaller
loop-event-smaller g c =
    let script = script_of c.args.plan.now (c.args.port - 1) in
    let e : EventData = c.in-Some.event.now in
    let get : slice_get script c.loop-event.had ≡ Some e = sym c.in-Some.ensures.event in
    let inside = slice_get_within script c.loop-event.had e get in
    omega arith

pub loop-event-preserved : goal.loop-event-preserved
loop-event-preserved g c =
    let script = script_of c.args.plan.now (c.args.port - 1) in
    let e : EventData = c.in-Some.event.now in
    let get : slice_get script c.loop-event.had ≡ Some e = sym c.in-Some.ensures.event in
    had_more c.args.at script c.loop-event.had e c.loop-event.invariant get (omega (arith, c.at.ensures.value))

pub returns : goal.returns
returns g c =
    had_past c.args.at (script_of c.args.plan.now (c.args.port - 1)) c.loop-event.had c.loop-event.invariant
    (sym c.in_default.ensures.event)
