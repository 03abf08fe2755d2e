pub mod Numerals
pub mod Examples
pub mod NumeralsLaws
pub mod PiecesLaws
