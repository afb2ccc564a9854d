pub mod Chains
pub mod Tables
pub mod Adding
pub mod Narrowing
pub mod Windows
