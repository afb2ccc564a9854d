pub mod Knowledge
pub mod Objects
pub mod Stores
