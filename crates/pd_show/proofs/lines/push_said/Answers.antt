use Rattle.std.proofs.lemmas.Result.{on_ok_weaker}
use Rattle.pd_show.proofs.PageLemmas.{written_said}
use Rattle.pd_show.proofs.lines.push_said.Goals as goal

pub returns : goal.returns
returns c =
    on_ok_weaker c.push_line.result
    (λ h. λ words members e. written_said c.args.form c.args.page.now c.push_line.new.self _ _ _ _ words members h e)
    c.push_line.ensures
