pub mod Life
pub mod Text
