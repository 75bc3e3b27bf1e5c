pub mod Gathering
pub mod Sending
pub mod Rivals
pub mod Nodes
