pub mod BudgetLemmas
pub mod MarginLemmas
pub mod NotedLemmas
pub mod ShownLemmas
pub mod TruthLemmas
pub mod WalkLemmas
