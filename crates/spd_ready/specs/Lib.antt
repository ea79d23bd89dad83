pub mod Handles
pub mod Looks
pub mod Piles
