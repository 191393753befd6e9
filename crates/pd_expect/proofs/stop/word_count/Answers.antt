use Rattle.std.proofs.Common.{arith}
use Rattle.pd_expect.proofs.WordCounts.{words_fit}
use Rattle.pd_expect.proofs.stop.word_count.Goals as goal

pub overflow_add-count : goal.overflow_add-count
overflow_add-count c = omega (arith, words_fit c.args.line.now)
