pub mod Runs
pub mod Tables
pub mod Answers
