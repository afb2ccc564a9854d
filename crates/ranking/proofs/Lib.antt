pub mod Measuring
pub mod Judging
pub mod Ending
pub mod Given
pub mod Looping
pub mod Merging
pub mod Writing
