pub mod Walking
pub mod Computing
pub mod Exact
pub mod Exemplary
pub mod Checking
pub mod Running
