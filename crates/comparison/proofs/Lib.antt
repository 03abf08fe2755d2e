pub mod SignedLaws
pub mod PassingLaws
pub mod ExchangeLaws
pub mod BoundsLaws
pub mod Demands
pub mod Examples
