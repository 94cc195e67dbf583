-- What names stand for, kept while objects change.
pub mod Decided
pub mod Decisions
pub mod Keyed
pub mod Counted
pub mod Texts
pub mod Change
pub mod Room
pub mod NameText
