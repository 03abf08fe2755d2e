pub mod Comparison
pub mod Checks
pub mod Passing
pub mod Promise
pub mod Demand
