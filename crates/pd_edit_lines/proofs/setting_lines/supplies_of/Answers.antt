use Rattle.std.proofs.Common.{◌≡◌, ◌∙◌, ◌≤◌, length, true}
use Rattle.std.specs.Prelude.{is_some}
use Rattle.pd_edit_lines.specs.Words.{words, end_of}
use Rattle.pd_edit_lines.proofs.Supplies.{one_more, some_read, at_end}
use Rattle.pd_edit_lines.proofs.setting_lines.supplies_of.Goals as goal

pub loop-rest-preserved : goal.loop-rest-preserved
loop-rest-preserved c =
    let step =
    one_more c.loop-rest.supplies.items (words c.loop-rest.rest.now) (words c.in_ok-mv.others.now) (words c.in_ok-ma.others.now)
    c.in_ok-mv.mv c.in_ok-ma.ma c.in_ok-mv.ensures
    c.in_ok-ma.ensures in
    rw c.push.ensures.items (step ∙ c.loop-rest.invariant)

pub returns : goal.returns
returns c =
    let over : is_some (end_of (words c.loop-rest.rest.now)) ≡ true = rw c.end_of.ensures at c.loop-rest-test.ensures in
    let some = some_read (length c.loop-rest.supplies.items) (rw c.as_slice.ensures.value at c.if-is_empty.ensures) in
    let few : length c.loop-rest.supplies.items ≤ 7 = rw c.as_slice.ensures.value at c.as_slice.ensures.fits in
    at_end c.loop-rest.supplies.items (words c.loop-rest.rest.now) over some few ∙ c.loop-rest.invariant
