pub mod SumsLaws
pub mod Parts
pub mod PartsLaws
