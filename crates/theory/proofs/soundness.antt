pub mod Fitting
pub mod ActsSound
pub mod Soundness
pub mod Members
