pub mod Standing
pub mod Bounds
