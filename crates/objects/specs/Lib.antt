pub mod Values
pub mod Holding
pub mod Acts
