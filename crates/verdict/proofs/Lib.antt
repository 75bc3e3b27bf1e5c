pub mod Gaining
pub mod Delivers
