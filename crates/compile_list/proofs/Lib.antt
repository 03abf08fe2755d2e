pub mod Meaning
pub mod WrittenLaws
pub mod CallLaws
pub mod Examples
