-- What the texts of a link need besides the definitions of ldmodel.
pub mod LineWords
pub mod Definer
pub mod Naming
pub mod ShownMap
pub mod MapOf
