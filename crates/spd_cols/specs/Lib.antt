pub mod Values
pub mod Columns
pub mod Answers
pub mod Rows
pub mod Loading
pub mod Made
