-- What the proofs of several functions use.
pub mod Frames
pub mod Fuel
pub mod Letters
pub mod OneChild
mod Leaves
