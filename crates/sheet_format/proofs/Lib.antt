pub mod Examples
pub mod CostLaws
pub mod ColumnLinesLaws
pub mod LimitsLaws
pub mod PartsLaws
