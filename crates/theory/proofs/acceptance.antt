pub mod AcceptedWell
pub mod WellAccepted
pub mod Acceptance
pub mod Translatable
