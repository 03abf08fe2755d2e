pub mod PartsLaws
pub mod CycleLaws
pub mod Parsed
pub mod ParsedLaws
pub mod Examples
