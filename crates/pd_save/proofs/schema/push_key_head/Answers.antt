use Rattle.std.proofs.lemmas.Result.{on_ok_weaker}
use Rattle.pd_save.specs.SchemaText.{key_head}
use Rattle.pd_save.proofs.Joined.{joined_four}
use Rattle.pd_save.proofs.schema.push_key_head.Goals as goal

pub returns : goal.returns
unfolding key_head
returns c =
    on_ok_weaker c.push_meaning.result (λ h. joined_four _ _ _ _ _ _ _ _ _ c.in_ok-extend_from_slice.ensures.items
    c.in_ok-push_key.ensures c.in_ok-extend_from_slice-2.ensures.items h) c.push_meaning.ensures
