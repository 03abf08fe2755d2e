pub mod Cases
pub mod Sevens
pub mod Demands
