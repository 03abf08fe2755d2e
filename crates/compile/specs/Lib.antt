pub mod Call
pub mod Means
pub mod Compilable
