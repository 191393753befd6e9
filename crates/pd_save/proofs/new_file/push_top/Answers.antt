use Rattle.std.proofs.lemmas.Result.{on_ok_weaker}
use Rattle.pd_save.specs.NewFile.{new_top}
use Rattle.pd_save.proofs.Joined.{joined_six}
use Rattle.pd_save.proofs.new_file.push_top.Goals as goal

pub returns : goal.returns
unfolding new_top
returns c =
    on_ok_weaker c.push_number_line-3.result (λ h. joined_six _ _ _ _ _ _ _ _ _ _ _ _ _ c.in_ok-push_new_head.ensures
    c.in_ok-push_number_line.ensures c.in_ok-extend_from_slice.ensures.items c.in_ok-push_number_line-2.ensures
    c.in_ok-extend_from_slice-2.ensures.items h) c.push_number_line-3.ensures
