pub mod Counting
pub mod Months
pub mod Answers
