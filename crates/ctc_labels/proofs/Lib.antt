pub mod CallsLaws
pub mod Examples
