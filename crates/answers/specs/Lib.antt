pub mod Judgement
pub mod Decision
pub mod Decoded
pub mod Reading
