pub use Rattle.place_terms.proofs.Numbers as TermNumbers
pub use Rattle.place_terms.proofs.TablesByNumber as TermTables
pub mod Common
pub mod Grouped
pub mod Steps
pub mod FileOffsets
pub mod Tail
mod Layouts
pub mod Lists
mod Named
mod Ascending
pub mod Members
mod Owned
pub mod Walking
mod Numbers
mod AllNumbered
mod Collecting
mod Column
mod Placing
mod ObjectAddresses
