use Rattle.std.proofs.Common.{rules}
use Rattle.pd_edit_lines.specs.Numbers.{number_of}
use Rattle.pd_edit_lines.specs.declared.fault.EditFault.TheVariants.{Memory}
use Rattle.pd_bench.specs.declared.tally.Outcome.TheVariants.{Accepted, Refused}
use Rattle.pd_bench.specs.Session.{ok_text, refused_text}
use Rattle.pd_bench.proofs.answer.change.Goals as goal

pub returns-in-Err-clause-reply : goal.returns-in-Err-clause-reply
returns-in-Err-clause-reply g c =
    (refused_text (number_of c.in-Err.fault), Refused, search rules, search rules, search rules, search rules)

pub returns-then-is_err-clause-reply : goal.returns-then-is_err-clause-reply
returns-then-is_err-clause-reply g c =
    (refused_text (number_of Memory), Refused, search rules, search rules, search rules, search rules)

pub returns-clause-reply : goal.returns-clause-reply
returns-clause-reply g c = (ok_text, Accepted, search rules, search rules, search rules, search rules)
