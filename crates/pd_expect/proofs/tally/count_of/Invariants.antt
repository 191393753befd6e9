use Rattle.std.proofs.Common.{◌≡◌, ◌≤◌, take}
use Rattle.pd_expect.specs.Cases.{count_of}
use Rattle.pd_expect.proofs.tally.count_of.Given as goal

abbrev pub invariant-loop-case : goal.invariant-loop-case
invariant-loop-case l = record {
  counted : l.count ≡ count_of l.kind (take l.case-index l.cases);
  few : l.count ≤ l.case-index;
}
