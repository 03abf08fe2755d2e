pub mod Meaning
pub mod CallLaws
pub mod Examples
