pub mod Handed
pub mod HandedLaws
pub mod BoundsLaws
pub mod Examples
