pub mod reading
pub mod lookups
pub mod typing
pub mod acceptance
pub mod soundness
pub mod evaluation
pub mod translation
pub mod simulation
