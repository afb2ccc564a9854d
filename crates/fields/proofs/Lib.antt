pub mod Decimals
pub mod Digits
pub mod Fields
