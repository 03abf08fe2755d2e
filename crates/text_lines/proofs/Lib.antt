pub mod LinesLaws
pub mod PlacesLaws
pub mod LinesLoops
pub mod Examples
