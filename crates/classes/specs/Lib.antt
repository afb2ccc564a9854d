pub mod Subclasses
