pub mod Multiples
pub mod Leads
pub mod Firsts
pub mod Turnings
pub mod Tallies
pub mod Placed
