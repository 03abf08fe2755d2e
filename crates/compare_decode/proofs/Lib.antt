pub mod Reports
pub mod Decoded
