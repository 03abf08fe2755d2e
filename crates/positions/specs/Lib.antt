pub mod Opened
pub mod OpenedWords
pub mod Numbered
pub mod Compiled
