mod ChainLemmas
mod LossLemmas
mod RankLemmas
mod RowLemmas
