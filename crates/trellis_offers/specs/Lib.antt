pub mod Offers
pub mod OffersLoops
pub mod OffersLaws
pub mod LookupsLaws
pub mod Places
pub mod PlacesLaws
pub mod PlacesLoops
pub mod Unique
