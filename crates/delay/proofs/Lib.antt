pub mod Asking
pub mod Turning
pub mod Keeping
pub mod Setting
