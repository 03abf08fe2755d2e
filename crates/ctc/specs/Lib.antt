pub mod Collapse
pub mod Spread
