use Rattle.std.proofs.Common.{◌≡◌, drop}
use Rattle.pd_explain.specs.Hints.{near_word}
use Rattle.pd_explain.proofs.hints.near_word.Given as goal

abbrev pub invariant-loop-row : goal.invariant-loop-row
invariant-loop-row l = near_word l.word l.rows ≡ near_word l.word (drop l.row-index l.rows)
