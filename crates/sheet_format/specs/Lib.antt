pub mod Sheet
pub mod ColumnLines
