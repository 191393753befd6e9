use Rattle.std.proofs.Common.{◌≡◌, ◌≤◌, ◌*◌, ◌^◌, take}
use Rattle.pd_expect.specs.Junit.{sum_of}
use Rattle.pd_expect.proofs.junit.sum_of.Given as goal

abbrev pub invariant-loop-suite : goal.invariant-loop-suite
invariant-loop-suite l = record {
  summed : l.sum ≡ sum_of l.what (take l.suite-index l.suites);
  room : l.sum ≤ 2 ^ 64 * l.suite-index;
}
