pub mod Places
pub mod Resolved
pub mod Coded
pub mod Alike
pub mod Silent
pub mod Lined
pub mod CodeBlocks
