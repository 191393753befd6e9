use Rattle.std.proofs.lemmas.Result.{on_ok_weaker}
use Rattle.pd_save.specs.NewFile.{laptop}
use Rattle.pd_save.proofs.Joined.{joined_eight}
use Rattle.pd_save.proofs.new_file.push_laptop.Goals as goal

pub returns : goal.returns
unfolding laptop
returns c =
    on_ok_weaker c.push_laptop_options.result (λ h. joined_eight _ _ _ _ _ _ _ _ _ _ _ _ _ _ _ _ _ c.in_ok-push_head.ensures
    c.in_ok-extend_from_slice.ensures.items c.in_ok-push_word_line.ensures c.in_ok-extend_from_slice-2.ensures.items
    c.in_ok-push_number_line.ensures c.in_ok-extend_from_slice-3.ensures.items c.in_ok-push_number_line-2.ensures h)
    c.push_laptop_options.ensures
