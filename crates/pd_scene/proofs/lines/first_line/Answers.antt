use Rattle.std.proofs.Common.{arith}
use Rattle.pd_scene.proofs.CutLines.{positive, last_line, cut_line}
use Rattle.pd_scene.proofs.lines.first_line.Goals as goal

pub returns-in-empty-clause-lines : goal.returns-in-empty-clause-lines
returns-in-empty-clause-lines c =
    last_line c.args.text.now _ _ _ c.split_at.ensures.front c.split_at.ensures.back (positive _ (cc)) (omega arith)
    c.line_len.ensures.before

pub returns-in-len1-up-clause-lines : goal.returns-in-len1-up-clause-lines
returns-in-len1-up-clause-lines c =
    cut_line c.args.text.now _ _ _ _ c.split_at.ensures.front c.split_at.ensures.back (omega arith) (omega arith) c.line_len.ensures.before
    (c.line_len.ensures.found (omega arith)) c.without_return.ensures
