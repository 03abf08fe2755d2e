pub mod NumberLaws
pub mod VerdictLaws
pub mod ChecksLaws
pub mod ReportLaws
pub mod Examples
