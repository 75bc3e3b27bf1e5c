pub mod Examples
pub mod Runs
