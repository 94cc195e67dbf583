pub mod Common
pub mod FirstTakers
pub mod Marks
pub mod NamedLists
pub mod InLists
pub mod LivePaths
pub mod SharedStarts
pub mod NamedPieces
pub mod Sorts
pub mod RowSteps
pub mod GatheredLists
pub mod ObjectFacts
pub mod KeptNumbers
pub mod Ascending
pub mod Seen
pub mod Lists
pub mod Owners
pub mod Owning
pub mod ByNumber
pub mod Named
pub mod Preparing
pub mod PlacesUnder
pub mod Keyed
pub mod KeyPlaces
pub mod Refers
pub mod Starting
pub mod OwnWords
pub mod Knowing
mod Ranked
pub mod SameInputs
pub mod ByRuns
pub mod Commons
pub mod AllTaken
mod Counting
mod Ranks
mod Searching
mod OfObjects
mod Numbering
