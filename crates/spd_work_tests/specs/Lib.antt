pub mod Starvings
