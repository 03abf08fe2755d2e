pub mod Cost
pub mod Table
