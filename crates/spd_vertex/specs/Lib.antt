pub mod Slots
pub mod Starting
