pub mod Together
pub mod TogetherLaws
