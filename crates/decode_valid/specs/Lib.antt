pub mod Lent
pub mod Answers
pub mod Demand
pub mod Kept
