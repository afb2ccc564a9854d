pub mod Numbering
pub mod DateOrder
pub mod Calendar
pub mod Months
pub mod Terms
pub mod Rulings
pub mod Runs
