use Rattle.std.proofs.Common.{◌≡◌, ◌≤◌, ◌++◌, drop, length}
use Rattle.pd_source.specs.Acts.{all_after, all_wants}
use Rattle.pd_source.proofs.engine.Source.run.Given as goal

abbrev pub invariant-loop-deed : goal.invariant-loop-deed
invariant-loop-deed l = record {
  settings : l.self.settings ≡ l.fn.self.settings;
  after : all_after l.self.settings (drop l.deed-index l.deeds) l.now l.stimulus l.answer l.self.record ≡ all_after l.fn.self.settings
      l.deeds l.now l.stimulus l.answer l.fn.self.record;
  acts : l.acts.items ++ all_wants l.self.settings (drop l.deed-index l.deeds) l.now l.stimulus l.answer l.self.record ≡ all_wants
      l.fn.self.settings l.deeds l.now l.stimulus l.answer l.fn.self.record;
  few : length l.acts.items ≤ l.deed-index;
}
