pub mod Knowing
pub mod Labels
