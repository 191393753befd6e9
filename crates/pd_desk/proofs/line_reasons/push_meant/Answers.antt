use Rattle.std.proofs.Common.{◌++◌, ◌∙◌, ap, append_assoc, codes}
use Rattle.pd_desk.proofs.line_reasons.push_meant.Goals as goal

pub returns : goal.returns
returns c =
    let text = c.args.text.now.items in
    let command = c.args.command.now in
    c.in_ok-extend_from_slice-3.ensures.items
    ∙ ap (λ v. v ++ codes "?\n")
    (c.in_ok-extend_from_slice-2.ensures.items ∙ ap (λ v. v ++ command) c.in_ok-extend_from_slice.ensures.items)
    ∙ append_assoc (text ++ codes "did you mean ") command (codes "?\n")
    ∙ append_assoc text (codes "did you mean ") (command ++ codes "?\n")
