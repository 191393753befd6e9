use Rattle.std.proofs.Common.{◌≡◌, ◌++◌, take}
use Rattle.pd_expect.specs.Cases.{cases_text}
use Rattle.pd_expect.proofs.case.push_cases.Given as goal

abbrev pub invariant-loop-case : goal.invariant-loop-case
invariant-loop-case l = l.text.items ≡ l.initial.text.items ++ cases_text l.form l.passes l.name (take l.case-index l.cases)
