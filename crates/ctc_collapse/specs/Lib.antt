pub mod Calls
pub mod Added
