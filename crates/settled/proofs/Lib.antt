pub mod Sending
pub mod Delivering
