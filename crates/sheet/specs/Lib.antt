pub mod Sender
pub mod Sheet
pub mod Spanning
pub mod Limited
pub mod Lawful
