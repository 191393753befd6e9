use Rattle.std.proofs.Common.{◌≡◌, ◌++◌, ◌∙◌, List, ℕ, ap, append_assoc, codes}
use Rattle.std.proofs.lemmas.Result.{on_ok_weaker}
use Rattle.pd_tell.specs.Words.{codes_words, side_words}
use Rattle.pd_tell.proofs.starts.push_hard_reset.Goals as goal

joined : (t t1 t2 t3 a b w v : List ℕ) → t1 ≡ t ++ a → t2 ≡ t1 ++ b → t3 ≡ t2 ++ w → w ≡ v → t3 ≡ t ++ (a ++ (b ++ v))
joined t t1 t2 t3 a b w v e f g h = rw (g, f, e, h) (simp append_assoc)

pub returns : goal.returns
returns c =
    on_ok_weaker c.push_wanted.result
    (λ h. joined _ _ _ _ (side_words c.args.side) (codes " Hard_Reset") _ _
    (c.in_ok-extend_from_slice.ensures.items ∙ ap (λ v. c.args.text.now.items ++ v) c.side_text.ensures)
    c.in_ok-extend_from_slice-2.ensures.items h (ap (codes_words c.args.with_codes) c.ordered-codes.ensures)) c.push_wanted.ensures
