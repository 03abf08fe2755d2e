pub mod Last
pub mod LastLoops
pub mod Fill
pub mod FillLoops
