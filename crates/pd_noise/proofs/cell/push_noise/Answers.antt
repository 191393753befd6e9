use Rattle.std.specs.Prelude.{codes}
use Rattle.std.proofs.lemmas.Result.{on_ok_weaker}
use Rattle.pd_noise.specs.Reports.{between, noise_words, percent_words}
use Rattle.pd_noise.proofs.RowLemmas.{joined_three}
use Rattle.pd_noise.proofs.cell.push_noise.Goals as goal

pub returns : goal.returns
unfolding noise_words
returns c =
    on_ok_weaker c.push_between.result (λ is. joined_three c.args.text.now.items c.extend_from_slice.new.self.items
    c.push_percent.new.text.items c.push_between.new.text.items (codes "each packet lost with ") (percent_words c.args.noise.now.share)
    (between (codes " %, seed ") c.args.noise.now.seed (codes ": ")) c.in_ok-extend_from_slice.ensures.items c.in_ok-push_percent.ensures
    is) c.push_between.ensures
