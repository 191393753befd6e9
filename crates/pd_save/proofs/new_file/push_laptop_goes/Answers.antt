use Rattle.std.proofs.lemmas.Result.{on_ok_weaker}
use Rattle.pd_save.specs.NewFile.{laptop_goes}
use Rattle.pd_save.proofs.Joined.{joined_four}
use Rattle.pd_save.proofs.new_file.push_laptop_goes.Goals as goal

pub returns : goal.returns
unfolding laptop_goes
returns c =
    on_ok_weaker c.push_word_line.result (λ h. joined_four _ _ _ _ _ _ _ _ _ c.in_ok-push_head.ensures
    c.in_ok-extend_from_slice.ensures.items c.in_ok-push_event_lines.ensures h) c.push_word_line.ensures
