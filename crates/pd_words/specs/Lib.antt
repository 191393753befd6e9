pub mod Found
pub mod Help
pub mod Lab
pub mod LabTasks
pub mod Meant
pub mod Names
pub mod Program
pub mod Tasks
