pub mod Signs
pub mod SignsLaws
