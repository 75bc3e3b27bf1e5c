pub mod Sharing
pub mod Marks
pub mod Words
pub mod Parts
pub mod Passing
pub mod Numbers
pub mod Lines
pub mod Closing
