pub mod Table
pub mod Values
pub mod Lines
pub mod Testing
pub mod Matching
pub mod Asked
pub mod Seen
pub mod Found
