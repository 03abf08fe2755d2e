pub mod TextLaws
pub mod DigitsLaws
pub mod Examples
