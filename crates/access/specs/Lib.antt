pub mod Fields
pub mod Calls
