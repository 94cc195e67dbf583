pub mod Common
pub mod Cut
pub mod Digits
pub mod Longest
pub mod Runs
pub mod Spellings
