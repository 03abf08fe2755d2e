pub mod Starts
pub mod Loops
