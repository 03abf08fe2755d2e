pub mod Labels
pub mod Examples
pub mod Loops
