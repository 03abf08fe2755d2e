pub mod Examples
pub mod Rule
pub mod Never
pub mod Loops
pub mod Zeros
