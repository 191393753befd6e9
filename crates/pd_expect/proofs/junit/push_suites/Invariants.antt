use Rattle.std.proofs.Common.{◌≡◌, ◌++◌, take}
use Rattle.std.specs.List.{flat_map}
use Rattle.pd_expect.specs.Junit.{suite_xml}
use Rattle.pd_expect.proofs.junit.push_suites.Given as goal

abbrev pub invariant-loop-suite : goal.invariant-loop-suite
invariant-loop-suite l = l.text.items ≡ l.initial.text.items ++ flat_map suite_xml (take l.suite-index l.suites)
