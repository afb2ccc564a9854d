-- What the proofs of several functions use.
mod Running
mod Lines
pub mod Checked
