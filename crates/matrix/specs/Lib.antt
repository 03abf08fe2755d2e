pub mod Matrix
pub mod Barred
pub mod Paths
pub mod View
