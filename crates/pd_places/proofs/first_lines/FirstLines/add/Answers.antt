use Rattle.std.proofs.Common.{◌∙◌}
use Rattle.std.proofs.lemmas.List.{at_drop_all, at_drop_more}
use Rattle.pd_places.specs.FirstLines.{added}
use Rattle.pd_places.proofs.FirstLines.{more_bytes, no_bytes}
use Rattle.pd_places.proofs.first_lines.FirstLines.add.Goals as goal

pub loop-byte-preserved : goal.loop-byte-preserved
loop-byte-preserved c =
    more_bytes _ c.loop-byte.self _ _ _
    (c.loop-byte.invariant
    ∙ at_drop_more (λ xs. added c.loop-byte.self xs) c.args.more.now c.loop-byte.byte-index 0 c.loop-byte-test.true)
    c.in_ok-push.ensures

pub returns : goal.returns
returns c =
    no_bytes _ c.loop-byte.self
    (c.loop-byte.invariant ∙ at_drop_all (λ xs. added c.loop-byte.self xs) c.args.more.now c.loop-byte.byte-index c.loop-byte-test.false)
