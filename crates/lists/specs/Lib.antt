pub mod Each
pub mod Lists
pub mod Memory
pub mod Stored
pub mod Cases
pub mod Options
pub mod Marks
pub mod Least
