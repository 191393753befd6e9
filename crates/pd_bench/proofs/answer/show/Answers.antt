use Rattle.std.proofs.Common.{rules}
use Rattle.pd_edit_lines.specs.Numbers.{number_of}
use Rattle.pd_edit_lines.specs.declared.fault.EditFault.TheVariants.{NoSuchPort}
use Rattle.pd_scenario.specs.Plans.{plan_of}
use Rattle.pd_bench.specs.declared.tally.Outcome.TheVariants.{Refused, Shown}
use Rattle.pd_bench.specs.Session.{refused_text, show_text}
use Rattle.pd_bench.proofs.answer.show.Goals as goal

pub returns-then-not-can_show-clause-reply : goal.returns-then-not-can_show-clause-reply
returns-then-not-can_show-clause-reply g c =
    (refused_text (number_of NoSuchPort), Refused, search rules, search rules, search rules)

pub returns-clause-reply : goal.returns-clause-reply
returns-clause-reply g c =
    let text = show_text c.args.shown (plan_of c.args.state.now.scenario) (g.T.Runner.entries c.args.runner.now) in
    (text, Shown, search rules, search rules, search rules)
