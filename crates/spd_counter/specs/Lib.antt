pub mod Claiming
pub mod Receipts
pub mod Arriving
pub mod Increments
