use Rattle.std.proofs.Common.{rules, ap}
use Rattle.pd_source.specs.Record.{SourceData}
use Rattle.pd_line.specs.declared.port_parts.Waiting.TheVariants.{Nothing}
use Rattle.pd_port.proofs.Polled.{polled_is}
use Rattle.pd_port.proofs.polls.polls_again.Goals as goal

pub returns : goal.returns
returns c = λ _.
    polled_is c.args.parts.now (record c.args.parts.now { source = c.polls_again.new.self; source_waits = Nothing })
    c.args.due.now c.in-Timer-Source-default.timer c.args.answer.now
    (search rules) (search rules) (search rules)
    (ap (λ (s : SourceData). record c.args.parts.now { source = s; source_waits = Nothing }) (search rules))
