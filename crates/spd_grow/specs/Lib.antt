pub mod Steady
pub mod Tosses
