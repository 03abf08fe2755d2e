pub mod Best
pub mod Order
pub mod Outcome
pub mod Plain
