pub mod Fields
pub mod FieldsLaws
pub mod CutLoops
pub mod NumbersLoops
pub mod NarrowLoops
pub mod Examples
