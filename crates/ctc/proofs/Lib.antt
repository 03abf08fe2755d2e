pub mod CollapseLaws
pub mod Examples
pub mod SpreadLaws
