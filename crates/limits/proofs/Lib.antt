pub mod Told
pub mod Standing
pub mod ReservedNames
pub mod FieldLimits
