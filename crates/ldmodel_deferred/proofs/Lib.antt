pub mod Cutting
pub mod Beside
