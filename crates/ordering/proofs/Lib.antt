pub mod Lines
pub mod Merging
pub mod Sorting
pub mod Ranking
