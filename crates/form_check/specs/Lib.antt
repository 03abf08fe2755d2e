pub mod ChecksLaws
