use Rattle.std.proofs.Common.{arith}
use Rattle.pd_explain.proofs.WordCounts.{words_fit}
use Rattle.pd_explain.proofs.stops.word_count.Goals as goal

pub overflow_add-count : goal.overflow_add-count
overflow_add-count c = omega (arith, words_fit c.args.line.now)

pub returns-clause-bound : goal.returns-clause-bound
returns-clause-bound c = omega (arith, words_fit c.args.line.now)
