pub mod Common
pub mod Entering
pub mod Placing
pub mod Providing
pub mod Sorting
pub mod Doubling
pub mod Undoubled
pub mod EntryFault
