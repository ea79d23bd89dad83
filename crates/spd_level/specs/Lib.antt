pub mod Columns
pub mod Left
pub mod Turn
pub mod Found
