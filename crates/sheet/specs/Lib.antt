pub mod Inputs
pub mod InputsLaws
