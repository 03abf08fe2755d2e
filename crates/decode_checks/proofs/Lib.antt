pub mod PassesLaws
pub mod PassingLaws
pub mod Loops
pub mod Examples
