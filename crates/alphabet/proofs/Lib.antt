pub mod LabelsLaws
pub mod AlphabetLaws
pub mod Examples
