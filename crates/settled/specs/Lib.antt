pub mod Text
pub mod Figures
pub mod Holding
