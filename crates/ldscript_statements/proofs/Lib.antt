pub mod Common
pub mod Fills
pub mod Listing
pub mod Derived
pub mod Clashing
pub mod Scanning
pub mod NameTables
pub mod KindsNoted
