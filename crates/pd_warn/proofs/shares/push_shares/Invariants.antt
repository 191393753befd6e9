use Rattle.std.proofs.Common.{◌≡◌, ◌+◌, ◌++◌, drop}
use Rattle.pd_warn.specs.Stated.{shares_part}
use Rattle.pd_warn.proofs.shares.push_shares.Given as goal

abbrev pub invariant-loop-settings : goal.invariant-loop-settings
invariant-loop-settings l = record {
  parts :
      l.initial.out.items ++ shares_part l.budget_mw l.floors 1 l.ports
      ≡ l.out.items ++ shares_part l.budget_mw l.floors l.port (drop l.settings-index l.ports);
  count : l.port ≡ l.settings-index + 1;
}
