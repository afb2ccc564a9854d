pub mod Lines
pub mod Entering
pub mod Marking
pub mod Scanning
pub mod Tables
