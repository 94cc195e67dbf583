pub mod Headers
pub mod Cuts
pub mod StringTables
pub mod Stops
pub mod GraphicRuns
