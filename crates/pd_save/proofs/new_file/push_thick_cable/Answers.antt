use Rattle.std.proofs.lemmas.Result.{on_ok_weaker}
use Rattle.pd_save.specs.NewFile.{thick_cable}
use Rattle.pd_save.proofs.Joined.{joined_five}
use Rattle.pd_save.proofs.new_file.push_thick_cable.Goals as goal

pub returns : goal.returns
unfolding thick_cable
returns c =
    on_ok_weaker c.push_number_line.result (λ h. joined_five _ _ _ _ _ _ _ _ _ _ _ c.in_ok-push_head.ensures
    c.in_ok-extend_from_slice.ensures.items c.in_ok-push_word_line.ensures c.in_ok-push_word_line-2.ensures h)
    c.push_number_line.ensures
