-- What a table of names holds, and what its parts keep.
pub mod State
pub mod Hashing
pub mod Known
pub mod PrefixKeys
pub mod Places
pub mod Numbers
pub mod Steps
pub mod Objects
pub mod Lists
pub mod Spelled
pub mod Tally
pub mod Changes
