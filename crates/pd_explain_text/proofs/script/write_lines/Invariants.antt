use Rattle.std.proofs.Common.{◌≡◌, ◌+◌, ◌≤◌, ◌++◌, length}
use Rattle.std.specs.Str.Lines.{lines}
use Rattle.pd_scene.specs.Script.{followed}
use Rattle.pd_scene.specs.Made.{made}
use Rattle.pd_explain_text.specs.Told.{script_told}
use Rattle.pd_explain_text.proofs.Written.{Progress}
use Rattle.pd_explain_text.proofs.script.write_lines.Given as goal

abbrev pub invariant-loop-line : goal.invariant-loop-line
invariant-loop-line g l = record {
  progress : Progress
      (script_told l.edits g.row.N l.initial.scenario 1 (lines l.script))
      (script_told l.edits g.row.N l.scenario l.number (lines l.rest))
      l.any (g.W.TextOut.taken l.fn.writer) (g.W.TextOut.taken l.writer);
  after : followed g.row.N l.initial.scenario (lines l.script) ≡ followed g.row.N l.scenario (lines l.rest);
  noted :
      l.initial.noted.items ++ made g.row.N l.initial.scenario 1 (lines l.script)
      ≡ l.noted.items ++ made g.row.N l.scenario l.number (lines l.rest);
  counts : g.W.TextOut.failures l.writer ≡ g.W.TextOut.failures l.fn.writer;
  count : l.number + length l.rest ≤ length l.script + 1;
}

abbrev pub decreases-loop-line : goal.decreases-loop-line
decreases-loop-line g l = length l.rest
