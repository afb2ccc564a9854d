pub mod Counts
pub mod Ranking
pub mod LineLists
pub mod Entries
pub mod Fleet
pub mod Worked
