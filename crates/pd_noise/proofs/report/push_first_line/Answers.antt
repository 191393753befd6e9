use Rattle.std.proofs.Common.{◌++◌, ◌∙◌, ap, length}
use Rattle.std.specs.Prelude.{codes, count_by}
use Rattle.std.specs.List.{sum_by}
use Rattle.std.proofs.lemmas.Result.{on_ok_weaker}
use Rattle.pd_noise.specs.Reports.{counted, ends_otherwise, first_line, lost_words, noise_words}
use Rattle.pd_noise.specs.declared.noisy.Noisy.{Noisy}
use Rattle.pd_noise.proofs.RowLemmas.{joined_five}
use Rattle.pd_noise.proofs.report.push_first_line.Goals as goal

pub returns : goal.returns
unfolding first_line
returns c =
    let xs = c.args.noisies.now in
    let one = codes " run ends with other contracts\n" in
    let several = codes " runs end with other contracts\n" in
    on_ok_weaker c.push_counted-2.result (λ is. joined_five c.args.text.now.items c.push_counted.new.text.items c.push_noise.new.text.items
    c.push_lost.new.text.items c.extend_from_slice.new.self.items c.push_counted-2.new.text.items
    (counted (length xs) (codes " run, ") (codes " runs, ")) (noise_words c.args.noise.now) (lost_words (sum_by (λ (x : Noisy). x.lost) xs))
    (codes ", ") (counted (count_by (ends_otherwise c.args.without.now) xs) one several)
    c.in_ok-push_counted.ensures c.in_ok-push_noise.ensures
    (c.in_ok-push_lost.ensures ∙ ap (λ n. c.push_noise.new.text.items ++ lost_words n) c.lost_in_all.ensures)
    c.in_ok-extend_from_slice.ensures.items
    (is ∙ ap (λ n. c.extend_from_slice.new.self.items ++ counted n one several) c.others_in_all.ensures)) c.push_counted-2.ensures
