pub mod Tables
pub mod Entering
