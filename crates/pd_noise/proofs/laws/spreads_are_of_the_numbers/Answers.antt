use Rattle.std.proofs.Common.{arith}
use Rattle.pd_noise.specs.Ranks.{spread_of}
use Rattle.pd_noise.proofs.RankLemmas.{in_order, is_one}
use Rattle.pd_noise.proofs.laws.spreads_are_of_the_numbers.Goals as goal

pub returns : goal.returns
unfolding spread_of
returns c xs some = record {
  least = is_one xs _ (omega arith);
  median = is_one xs _ (omega arith);
  high = is_one xs _ (omega arith);
  greatest = is_one xs _ (omega arith);
  low_half = in_order xs _ _ (omega arith) (omega arith);
  high_half = in_order xs _ _ (omega arith) (omega arith);
  tail = in_order xs _ _ (omega arith) (omega arith);
}
