pub mod Bytes
pub mod Text
pub mod Places
pub mod Digits
