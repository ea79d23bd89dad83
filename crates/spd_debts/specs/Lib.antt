pub mod Debts
pub mod Worth
pub mod Books
pub mod BookRule
pub mod Payments
