pub mod Items
pub mod ItemsLaws
pub mod Digits
pub mod DigitsLaws
pub mod CostsLaws
