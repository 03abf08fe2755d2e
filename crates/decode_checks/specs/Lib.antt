pub mod Checks
pub mod Passing
