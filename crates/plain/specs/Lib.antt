pub mod Sources
pub mod Numbers
pub mod Tasks
pub mod Emission
pub mod Answers
