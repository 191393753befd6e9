pub mod BudgetLemmas
pub mod Free
pub mod Kept
pub mod Lines
pub mod Most
pub mod Offers
pub mod Parts
