use Rattle.std.proofs.Common.{ℕ, drop, arith}
use Rattle.pd_scenario.specs.Plans.{plan_of}
use Rattle.pd_report.proofs.MarginLemmas.{Moves, none-before-less}
use Rattle.pd_report.proofs.BudgetLemmas.{next-later}
use Rattle.pd_report.proofs.WalkLemmas.{walk-on, text-on, less-on, margin-on}
use Rattle.pd_report.proofs.margin_lines.end_instant.Goals as goal

pub go_on-requires : goal.go_on-requires
go_on-requires g c =
    let at : ℕ = c.args.walk.now.at in
    let next = c.next_entry-next.ensures.one at (omega (arith, c.end_time.ensures.value, c.requires.in_time)) c.requires.over in
    let later =
    c.sooner.ensures.one at next (next-later c.args.walk.now.next (plan_of c.args.scenario.now) at c.requires.walk.knows.next_is) in
    let knows = c.requires.walk.knows in
    record { later = later; in_order = knows.order_is.in_order; stands = knows.stands }

pub returns-clause-walk : goal.returns-clause-walk
returns-clause-walk g c =
    let moves : Moves = g.T.Runner.entries c.args.run.now in
    let goes = c.go_on.ensures (plan_of c.args.scenario.now) c.requires.walk.knows in
    let ahead =
    none-before-less c.sooner.result c.next_entry-next.result (drop c.args.walk.now.seen moves) c.sooner.ensures.first
    c.next_entry-next.ensures.none_before in
    walk-on (plan_of c.args.scenario.now) moves c.args.walk.now c.sooner.result c.requires.walk goes.later ahead
    c.sooner.ensures.second
    c.go_on.new.self (omega (arith, c.sooner.ensures.first, c.next_entry-next.ensures.soon, c.end_time.ensures.value)) goes

pub returns-clause-text : goal.returns-clause-text
returns-clause-text g c =
    let moves : Moves = g.T.Runner.entries c.args.run.now in
    let goes = c.go_on.ensures (plan_of c.args.scenario.now) c.requires.walk.knows in
    let ahead =
    none-before-less c.sooner.result c.next_entry-next.result (drop c.args.walk.now.seen moves) c.sooner.ensures.first
    c.next_entry-next.ensures.none_before in
    text-on (plan_of c.args.scenario.now) moves c.args.walk.now c.sooner.result c.requires.walk goes.later ahead
    c.sooner.ensures.second c.go_on.new.self goes

pub returns-clause-stays : goal.returns-clause-stays
returns-clause-stays g c t low high =
    let moves : Moves = g.T.Runner.entries c.args.run.now in
    let goes = c.go_on.ensures (plan_of c.args.scenario.now) c.requires.walk.knows in
    let ahead =
    none-before-less c.sooner.result c.next_entry-next.result (drop c.args.walk.now.seen moves) c.sooner.ensures.first
    c.next_entry-next.ensures.none_before in
    margin-on (plan_of c.args.scenario.now) moves c.args.walk.now c.sooner.result c.requires.walk goes.later ahead
    c.sooner.ensures.second t low (omega (arith, high, goes.at_is))

pub returns-clause-less : goal.returns-clause-less
returns-clause-less g c =
    let goes = c.go_on.ensures (plan_of c.args.scenario.now) c.requires.walk.knows in
    less-on (plan_of c.args.scenario.now) (g.T.Runner.entries c.args.run.now) c.args.walk.now c.sooner.result c.go_on.new.self
    c.requires.in_time goes
