pub mod Calendar
pub mod Dates
pub mod Numbering
pub mod Terms
pub mod Prices
pub mod Reports
pub mod Worked
