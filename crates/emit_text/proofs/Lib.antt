-- Lemmas of the crate.
pub mod Common
pub mod Appending
pub mod Ends
pub mod HexDigits
pub mod MapLines
pub mod Spelling
pub mod FoundSections
pub mod SideBySide
pub mod Mapped
pub mod ByteOrder
pub mod MapNames
pub mod Definers
