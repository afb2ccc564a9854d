pub mod Answers
pub mod Blocks
pub mod Faults
pub mod Numbers
pub mod Ready
