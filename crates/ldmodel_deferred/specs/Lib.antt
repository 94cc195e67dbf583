pub mod Commands
pub mod Changes
pub mod Answers
