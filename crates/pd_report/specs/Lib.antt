pub mod ContractLines
pub mod FaultLines
pub mod LeastMargin
pub mod Line
pub mod Margins
pub mod Report
pub mod Truth
pub mod Walk
