pub mod Stops
pub mod Counting
pub mod Gives
