-- What the proofs of several functions use; the evaluator cites those that are pub.
pub mod Nth
pub mod Objects
pub mod Values
pub mod Holding
pub mod Acts
mod Fresh
mod Changes
pub mod Finding
