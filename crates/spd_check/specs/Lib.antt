pub mod Names
pub mod Items
pub mod Places
pub mod Faults
pub mod Checks
pub mod Coding
pub mod Lines
pub mod Checked
