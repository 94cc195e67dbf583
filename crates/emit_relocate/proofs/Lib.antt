pub mod Common
mod Targets
mod Sites
mod Runs
mod Added
mod Evaluations
mod Places
mod Kept
mod Found
mod SymbolValueRows
mod Filling
pub mod Lists
mod FieldsInFile
mod Moving
mod Changing
mod Settling
mod NoRelocations
mod Renewing
mod Paired
mod Patching
mod NothingToEvaluate
pub mod NumbersWithCases
pub mod Rows
pub mod Objects
pub mod Giving
pub mod Listing
pub mod AddedSymbols
pub mod Distinct
pub mod Defined
pub mod Regions
pub mod Declared
pub mod Looking
pub mod Failing
pub mod Searching
pub mod NamesAscending
pub mod Picking
pub mod Walking
pub mod Counted
pub mod Placing
