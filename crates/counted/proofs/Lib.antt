pub mod Windows
pub mod Scanning
pub mod Counts
