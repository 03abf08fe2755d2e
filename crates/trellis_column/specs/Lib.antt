pub mod Column
pub mod BlanksLaws
pub mod ColumnLaws
pub mod Loops
