pub mod Group
pub mod Kept
pub mod Window
pub mod Bounded
