pub mod Letters
pub mod LettersLoops
pub mod RowsLaws
pub mod Rows
