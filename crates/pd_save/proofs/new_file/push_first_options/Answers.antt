use Rattle.std.proofs.lemmas.Result.{on_ok_weaker}
use Rattle.pd_save.specs.NewFile.{first_options}
use Rattle.pd_save.proofs.Joined.{joined_four}
use Rattle.pd_save.proofs.new_file.push_first_options.Goals as goal

pub returns : goal.returns
unfolding first_options
returns c =
    on_ok_weaker c.push_constrained.result (λ h. joined_four _ _ _ _ _ _ _ _ _ c.in_ok-extend_from_slice.ensures.items
    c.in_ok-push_number_line.ensures c.in_ok-extend_from_slice-2.ensures.items h) c.push_constrained.ensures
