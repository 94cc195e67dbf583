pub use Rattle.place_sections.specs as sections
pub use Rattle.place_terms.specs as terms
pub mod Grouping
pub mod Placing
pub mod Length
pub mod LinkLayout
pub mod Offsets
pub mod Entries
pub mod InPlace
pub mod Columns
pub mod IndexedLayout
