pub mod Line
pub mod Names
pub mod Tokens
pub mod Forms
pub mod Reader
pub mod Grammar
pub mod Number
