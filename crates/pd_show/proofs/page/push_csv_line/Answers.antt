use Rattle.std.proofs.Common.{codes}
use Rattle.std.specs.Prelude.{decimal}
use Rattle.pd_show.specs.Pages.{csv_line, value}
use Rattle.pd_show.proofs.PageLemmas.{joined10}
use Rattle.pd_show.proofs.page.push_csv_line.Goals as goal

pub returns : goal.returns
unfolding csv_line
returns c =
    joined10 _ _ _ _ _ _ _ _ _ _ _ (decimal c.args.at) (codes ",") (decimal c.args.since) (codes ",") (decimal c.args.port)
    (codes ",") c.args.kind.now (codes ",") (value c.args.words.now) (codes "\n") c.in_ok-push_number.ensures
    c.in_ok-extend_from_slice.ensures.items c.in_ok-push_number-2.ensures c.in_ok-extend_from_slice-2.ensures.items
    c.in_ok-push_number-3.ensures c.in_ok-extend_from_slice-3.ensures.items c.in_ok-extend_from_slice-4.ensures.items
    c.in_ok-extend_from_slice-5.ensures.items c.in_ok-push_value.ensures c.in_ok-extend_from_slice-6.ensures.items
