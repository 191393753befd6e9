use Rattle.pd_edit_lines.specs.Words.{words}
use Rattle.pd_edit_lines.proofs.Lines.{inserts}
use Rattle.pd_edit_lines.proofs.event_lines.insert_of.Goals as goal

pub returns : goal.returns
returns c =
    inserts (words c.args.line.now) (words c.in_ok-id.line.now) (words c.in_ok-at.line.now) c.in_ok-id.id
    c.in_ok-at.at c.in_ok-happening.happening c.in_ok-id.ensures c.in_ok-at.ensures c.in_ok-happening.ensures
