use Rattle.std.proofs.Common.{rules, ◌++◌, ap, ◌∙◌}
use Rattle.pd_device.proofs.TextLemmas.{right_pad}
use Rattle.pd_device.proofs.text.Text.push_right.Goals as goal

pub returns-clause-bytes : goal.returns-clause-bytes
returns-clause-bytes g c =
    c.push_all-2.ensures.bytes ∙ ap (λ v. v ++ c.as_bytes-digits.result.now) c.push_all.ensures.bytes
    ∙ right_pad c.args.self.now c.as_bytes-digits.result.now c.saturating_sub-pad.result c.args.number (search rules) (search rules)
