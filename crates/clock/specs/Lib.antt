pub mod Multiple
pub mod Timing
