pub mod Lines
pub mod Parsing
pub mod Formatting
pub mod RoundTrip
