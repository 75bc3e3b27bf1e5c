pub mod Lone
pub mod Arrivals
pub mod Delivering
