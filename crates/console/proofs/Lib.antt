pub mod Writing
pub mod Showing
