pub mod Fault
pub mod ArgumentFault
