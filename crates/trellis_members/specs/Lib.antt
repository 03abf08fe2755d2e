pub mod Members
pub mod MembersLaws
pub mod Loops
pub mod Examples
