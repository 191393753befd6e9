use Rattle.std.proofs.Common.{codes}
use Rattle.pd_sweep.proofs.TrialLemmas.{joined_four}
use Rattle.pd_sweep.specs.Columns.{tally_members}
use Rattle.pd_sweep.specs.KindLines.{kind_member}
use Rattle.pd_sweep.proofs.kind_lines.push_kind_object.Goals as goal

pub returns : goal.returns
returns c =
    joined_four _ _ _ _ _ (codes "{\"kind\":\"message\"") (kind_member c.args.kind.now) (tally_members c.args.reserve c.args.tally.now)
    (codes "}\n") c.in_ok-extend_from_slice.ensures.items c.in_ok-push_kind_member.ensures c.in_ok-push_members.ensures
    c.in_ok-extend_from_slice-2.ensures.items
