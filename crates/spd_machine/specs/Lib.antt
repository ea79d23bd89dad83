pub mod Machine
pub mod Elision
pub mod SourceJobs
