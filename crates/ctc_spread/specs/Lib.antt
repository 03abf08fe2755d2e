pub mod Calls
pub mod Spaced
