-- What the proofs of several functions use.
pub mod Steps
mod Sets
mod Choices
mod Lists
mod Arguments
mod Blocks
mod Entering
mod Calls
