-- What stands after a first word.
use Rattle.std.proofs.Common.{◌≡◌, ℕ, Some}
use Rattle.pd_edit_lines.specs.Words.{number_at}
use Rattle.pd_edit_lines.specs.Grammar.{Words, happening_of, insert_of}
use Rattle.pd_edit_lines.specs.declared.edit.EditHappening.{EditHappening}
use Rattle.pd_edit_lines.specs.declared.edit.Edit.TheVariants.{Insert}
use Rattle.pd_edit_lines.proofs.FirstNumber.{begins}

pub inserts : (ws xs ys : Words) (i t : ℕ) (h : EditHappening) → Some (i, xs) ≡ number_at ws → Some (t, ys) ≡ number_at xs
    → Some h ≡ happening_of ys
    → Some (Insert i t h) ≡ insert_of ws
inserts ws xs ys i t h id at happening =
    let first = begins ws i xs id in
    let second = begins xs t ys at in
    rw (first.are, second.are, first.is, second.is, ← happening)
