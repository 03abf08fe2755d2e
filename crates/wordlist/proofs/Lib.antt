pub mod PrefixesLaws
pub mod LettersLaws
pub mod Exact
pub mod WordsLaws
pub mod Examples
