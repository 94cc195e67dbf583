pub mod Common
mod SectionsStandOnce
mod BytesInImage
mod StayedBySamePart
mod TablesShowSections
mod Ranges
mod Columns
mod WhollyStayed
mod StayedAtSameStart
mod ValuesBySource
mod Symbols
mod CleanObjectValues
mod FoundSections
mod SameRows
mod Resumed
mod Outlined
mod Outlines
mod SitesOfOverwritten
mod TablesShowObject
mod Rewriting
mod ObjectOverwritten
pub mod Beside
pub mod Placing
pub mod Reading
pub mod EarlyEnds
pub mod Working
mod Courses
mod AnswersWithoutMap
mod Words
