pub mod Places
pub mod Slots
pub mod Nodes
