pub mod Task
pub mod TaskEvents
