pub mod Found
pub mod FoundLaws
pub mod Copies
pub mod Shows
pub mod Letters
pub mod LettersLaws
pub mod SetLaws
