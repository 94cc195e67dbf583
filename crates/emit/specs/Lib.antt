-- What the output of a link needs besides the definitions of ldmodel.
pub use Rattle.emit_fields.specs as fields
pub use Rattle.emit_image.specs as image
pub use Rattle.emit_relocate.specs as relocate
pub use Rattle.emit_text.specs as text
pub mod Relocated
pub mod Numbered
pub mod Runs
pub mod Beside
pub mod DataRuns
pub mod Drawable
pub mod Joined
pub mod StayedPieces
pub mod Numbers
pub mod Output
pub mod Parts
pub mod Pieces
pub mod Sizes
pub mod Tables
pub mod Listed
pub mod LocatedSections
pub mod InPlaceRewrites
pub mod Plan
