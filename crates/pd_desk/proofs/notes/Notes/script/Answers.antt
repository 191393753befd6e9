use Rattle.pd_desk.proofs.ScriptText.{script_is}
use Rattle.pd_desk.proofs.notes.Notes.script.Goals as goal

pub returns : goal.returns
returns g c =
    script_is c.args.self.now.older.items c.args.self.now.earlier.items c.args.self.now.later.items _ _
    (rw (c.new-text.ensures.items, c.deref.ensures.value) at c.in_ok-push_lines.ensures)
    (rw c.deref-2.ensures.value at c.in_ok-push_steps.ensures)
