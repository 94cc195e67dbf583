pub mod Command
pub mod Call
pub mod Fault
