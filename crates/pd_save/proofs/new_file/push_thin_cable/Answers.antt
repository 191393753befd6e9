use Rattle.std.proofs.lemmas.Result.{on_ok_weaker}
use Rattle.pd_save.specs.NewFile.{thin_cable}
use Rattle.pd_save.proofs.Joined.{joined_seven}
use Rattle.pd_save.proofs.new_file.push_thin_cable.Goals as goal

pub returns : goal.returns
unfolding thin_cable
returns c =
    on_ok_weaker c.push_number_line.result (λ h. joined_seven _ _ _ _ _ _ _ _ _ _ _ _ _ _ _ c.in_ok-push_head.ensures
    c.in_ok-extend_from_slice.ensures.items c.in_ok-push_word_line.ensures c.in_ok-extend_from_slice-2.ensures.items
    c.in_ok-push_word_line-2.ensures c.in_ok-extend_from_slice-3.ensures.items h) c.push_number_line.ensures
