-- Lemmas of the crate.
pub mod Common
mod RelocatedLists
mod Ending
mod InFile
mod Sizes
mod Ordering
mod Faulting
mod Present
mod Reading
mod Patching
mod Beside
mod AllRows
mod Fills
mod Joining
mod Faultless
mod Lists
mod Numbering
mod Whole
mod OfRows
mod OfSections
mod Running
mod Sizing
mod Staying
mod OfSizes
mod OfSymbols
pub mod Mapped
mod Places
mod Others
mod Frame
mod Faults
mod Sites
mod Writing
mod Planning
mod Images
pub mod Objects
pub mod SameNames
pub mod SameValues
pub mod MappedGraph
pub mod SameInputs
pub mod SameReferences
pub mod SameRows
pub mod SameFrame
pub mod SameLink
