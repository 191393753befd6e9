mod BesideLemmas
pub mod ChangeLemmas
mod EffectLemmas
pub mod FoldLemmas
mod HitLemmas
mod IdLemmas
mod InstantLemmas
mod JoinLemmas
mod LimitLemmas
mod LostLemmas
mod PacketLemmas
mod PlaceLemmas
mod QuietLemmas
mod SetLemmas
mod ShareLemmas
mod StepLemmas
mod SumLemmas
mod SweepLemmas
pub mod TrialLemmas
mod TriesLemmas
mod TruthLemmas
pub mod WalkLemmas
mod WatchLemmas
mod WholeLemmas
