pub mod JudgeLaws
pub mod Examples
