pub mod Dag
pub mod DagSteps
