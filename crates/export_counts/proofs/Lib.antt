pub mod HandedLaws
pub mod Examples
