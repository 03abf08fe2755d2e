pub mod Answers
pub mod CountLaws
pub mod SignLaws
