pub mod Answers
pub mod SetsLaws
