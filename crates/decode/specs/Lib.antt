pub mod Promise
pub mod Demands
pub mod LookedLaws
