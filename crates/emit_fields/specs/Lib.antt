pub mod Canvas
pub mod Fields
pub mod Patches
