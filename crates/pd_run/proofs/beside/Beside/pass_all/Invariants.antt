use Rattle.std.proofs.Common.{◌≡◌, ℕ, ◌<◌}
use Rattle.std.specs.Prelude.{◌↔◌, IsTrue}
use Rattle.pd_scenario.specs.Plan.{script_of}
use Rattle.pd_run.specs.UpTo.{events_in}
use Rattle.pd_run.proofs.Agree.{HavePassed}
use Rattle.pd_run.proofs.beside.Beside.pass_all.Given as goal

abbrev pub invariant-loop-port : goal.invariant-loop-port
invariant-loop-port g l = record {
  at : l.self.at ≡ l.fn.self.at;
  budget : l.self.same_budget ≡ l.fn.self.same_budget;
  scripts : l.self.same_scripts ≡ l.fn.self.same_scripts;
  same : IsTrue l.all ↔ ((p : ℕ) → p < l.port
      → events_in l.fn.self.at l.to (script_of l.old p) ≡ events_in l.fn.self.at l.to (script_of l.plan p));
  passed : HavePassed l.port g.row.N l.fn.self.at l.to l.old l.plan l.self;
}
