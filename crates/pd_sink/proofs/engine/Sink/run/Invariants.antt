use Rattle.std.proofs.Common.{◌≡◌, ◌≤◌, ◌++◌, drop, length}
use Rattle.pd_sink.specs.Acts.{all_after, all_wants}
use Rattle.pd_sink.proofs.engine.Sink.run.Given as goal

abbrev pub invariant-loop-deed : goal.invariant-loop-deed
invariant-loop-deed l = record {
  after : all_after (drop l.deed-index l.deeds) l.now l.stimulus l.self ≡ all_after l.deeds l.now l.stimulus l.fn.self;
  acts : l.acts.items ++ all_wants (drop l.deed-index l.deeds) l.now l.stimulus l.self ≡ all_wants l.deeds l.now l.stimulus l.fn.self;
  few : length l.acts.items ≤ l.deed-index;
}
