pub mod AnswerLaws
pub mod PromiseLaws
pub mod PrintedLaws
pub mod LongestLaws
pub mod StepsLaws
pub mod Examples
