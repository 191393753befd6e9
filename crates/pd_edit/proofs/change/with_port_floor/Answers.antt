use Rattle.std.proofs.lemmas.List.{take_all}
use Rattle.std.proofs.lemmas.Result.{err_from_is_err_and}
use Rattle.std.proofs.Common.{◌∙◌, sym}
use Rattle.pd_edit.proofs.Ports.{changed_more}
use Rattle.pd_edit.proofs.change.with_port_floor.Goals as goal

pub loop-i-preserved : goal.loop-i-preserved
loop-i-preserved c =
    c.in_ok-push.ensures.items
    ∙ rw (c.loop-i.invariant, c.with_floor_at.ensures)
    (sym (changed_more c.args.port _ c.args.settings.now c.loop-i.i c.index-settings-i.result c.loop-i-test.true c.index-settings-i.is))

pub returns-in_err-push : goal.returns-in_err-push
returns-in_err-push c = let p = err_from_is_err_and c.from_residual.result c.from_residual.ensures.1 in rw p.1 tt

pub returns : goal.returns
returns c = rw (take_all c.loop-i.i c.args.settings.now c.loop-i-test.false) at c.loop-i.invariant
