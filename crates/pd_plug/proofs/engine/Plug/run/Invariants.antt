use Rattle.std.proofs.Common.{◌≡◌, ◌≤◌, ◌++◌, drop, length}
use Rattle.pd_plug.specs.Acts.{all_after, all_wants}
use Rattle.pd_plug.proofs.engine.Plug.run.Given as goal

abbrev pub invariant-loop-deed : goal.invariant-loop-deed
invariant-loop-deed l = record {
  after : all_after (drop l.deed-index l.deeds) l.now l.self ≡ all_after l.deeds l.now l.fn.self;
  acts : l.acts.items ++ all_wants (drop l.deed-index l.deeds) l.now l.self ≡ all_wants l.deeds l.now l.fn.self;
  few : length l.acts.items ≤ l.deed-index;
}
