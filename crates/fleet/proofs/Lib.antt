pub mod Entries
pub mod Order
pub mod Summing
pub mod Sorting
