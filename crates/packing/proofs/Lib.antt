pub mod FormLines
pub mod Ranges
pub mod Faithful
