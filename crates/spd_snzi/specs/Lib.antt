pub mod Paths
pub mod Arrivals
pub mod Told
pub mod Departures
