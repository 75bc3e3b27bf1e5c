pub mod Frame
pub mod Refused
pub mod Sums
pub mod Meaning
pub mod Asked
pub mod Bound
pub mod Search
pub mod Run
