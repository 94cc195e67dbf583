pub mod Common
pub mod FieldBytes
pub mod Order
pub mod Patches
pub mod Runs
mod Zeros
