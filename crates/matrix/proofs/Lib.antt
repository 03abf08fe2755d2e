pub mod PathsLaws
pub mod MatrixLaws
pub mod ColumnLaws
pub mod Examples
