pub mod Stubs
pub mod Notes
pub mod Ties
