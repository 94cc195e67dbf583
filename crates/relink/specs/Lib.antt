pub use Rattle.ldmodel_project.specs as project
pub use Rattle.relink_driver.specs as driver
pub mod Matches
pub mod Change
pub mod KeptTables
pub mod Work
pub mod PreviousLink
pub mod NameList
pub mod Outcome
pub mod Update
pub mod Deferred
pub mod DeferredWork
