pub mod Recorded
pub mod Places
pub mod Walked
pub mod Changed
pub mod Judged
pub mod Turned
pub mod Found
pub mod Stepping
