pub mod PendingLemmas
pub mod Refusals
pub mod SessionLemmas
pub mod TakenOut
pub mod Traces
pub mod Paid
pub mod Told
