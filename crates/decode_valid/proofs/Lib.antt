pub mod AnswersLaws
pub mod DemandLaws
pub mod PhasesLaws
