pub use Rattle.symres_decisions.specs as decisions
pub use Rattle.symres_table.specs as table
pub mod Entered
pub mod Decided
pub mod Placed
pub mod SymbolTable
pub mod Provided
pub mod Sorted
pub mod Duplicates
pub mod Undefined
