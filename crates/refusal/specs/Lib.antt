pub mod Number
pub mod Verdict
pub mod Checks
pub mod Report
pub mod Fills
