pub mod Heads
pub mod Ran
pub mod Stepped
