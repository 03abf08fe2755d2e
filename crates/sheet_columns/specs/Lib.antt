pub mod RestsLaws
pub mod Loops
pub mod Storing
pub mod Matrices
pub mod MatricesLaws
