pub mod Answer
pub mod AnswerLaws
pub mod Document
pub mod SheetsLaws
