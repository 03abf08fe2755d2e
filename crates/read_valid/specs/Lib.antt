pub mod Accepted
pub mod WordsLaws
