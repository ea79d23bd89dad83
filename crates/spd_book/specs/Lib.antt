pub mod Offers
pub mod Collects
