pub mod Digits
pub mod Lines
pub mod Back
pub mod Reading
pub mod LastLine
pub mod Sorting
pub mod Merging
