pub mod Exit
pub mod Session
pub mod DeferredSession
pub mod Fault
