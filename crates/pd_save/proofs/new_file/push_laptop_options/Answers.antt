use Rattle.std.proofs.lemmas.Result.{on_ok_weaker}
use Rattle.pd_save.specs.NewFile.{laptop_options}
use Rattle.pd_save.proofs.Joined.{joined_four}
use Rattle.pd_save.proofs.new_file.push_laptop_options.Goals as goal

pub returns : goal.returns
unfolding laptop_options
returns c =
    on_ok_weaker c.push_number_line.result (λ h. joined_four _ _ _ _ _ _ _ _ _ c.in_ok-extend_from_slice.ensures.items
    c.in_ok-push_word_line.ensures c.in_ok-extend_from_slice-2.ensures.items h) c.push_number_line.ensures
