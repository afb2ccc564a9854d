pub mod Writing
pub mod Lines
pub mod Tabled
pub mod Renewing
