pub mod Names
pub mod Prefix
