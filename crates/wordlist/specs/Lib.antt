pub mod Words
pub mod PrefixTree
pub mod Listed
