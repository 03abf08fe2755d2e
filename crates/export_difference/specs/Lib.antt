pub mod Handed
pub mod HandedLaws
pub mod Examples
