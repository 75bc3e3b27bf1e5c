pub mod Noting
pub mod Rising
pub mod Measuring
