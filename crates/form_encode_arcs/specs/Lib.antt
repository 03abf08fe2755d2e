pub mod Arcs
pub mod Loops
