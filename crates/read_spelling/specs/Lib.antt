pub mod InPlace
pub mod Loops
