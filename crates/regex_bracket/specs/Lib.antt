pub mod Answers
pub mod ClosingLaws
pub mod BracketLaws
