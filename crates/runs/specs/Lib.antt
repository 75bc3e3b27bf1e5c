pub mod Declarations
pub mod Delivery
