pub mod Scopes
pub mod Outcomes
pub mod Mentions
-- What a layout keeps under the numbers that a script gives its names.
pub mod Numbers
pub mod Naming
pub mod Keyed
pub mod Tables
pub mod LayoutSymbols
pub mod RegionTable
pub mod ProvidedTable
pub mod Wholes
pub mod SectionTable
pub mod PreviousLayout
pub mod Outputs
