use Rattle.std.proofs.Common.{◌≡◌, ◌++◌, take}
use Rattle.std.specs.List.{flat_map}
use Rattle.pd_expect.specs.Junit.{case_xml}
use Rattle.pd_expect.proofs.junit.push_tests.Given as goal

abbrev pub invariant-loop-case : goal.invariant-loop-case
invariant-loop-case l = l.text.items ≡ l.initial.text.items ++ flat_map (case_xml l.script) (take l.case-index l.cases)
