pub mod CostLaws
pub mod TableLaws
pub mod Loops
pub mod Examples
