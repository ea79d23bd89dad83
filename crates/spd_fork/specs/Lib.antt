pub mod Pieces
pub mod Workers
pub mod Places
