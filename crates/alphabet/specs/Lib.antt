pub mod Labels
pub mod Alphabet
