pub mod Call
pub mod Examples
pub mod Parts
pub mod PartsLaws
pub mod WholeLaws
pub mod Once
