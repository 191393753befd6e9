use Rattle.std.proofs.Common.{◌++◌}
use Rattle.pd_show.specs.Choices.{whole}
use Rattle.pd_show.specs.Lines.{all_lines, lines_before, start_lines, state_lines}
use Rattle.pd_show.proofs.SinceLemmas.{after_two}
use Rattle.pd_show.proofs.since.told_at.Goals as goal

pub returns : goal.returns
unfolding all_lines
returns c =
    let seen = c.args.seen.now in
    let until = c.until_start-until.result in
    let start = c.after_start-start.result in
    after_two c.args.before until c.after_states.result (lines_before seen)
    (start_lines whole seen seen.entry.start ++ state_lines seen) c.until_start-until.ensures
    (after_two until start c.after_states.result (start_lines whole seen seen.entry.start) (state_lines seen)
    c.after_start-start.ensures c.after_states.ensures)
