pub mod Translates
pub mod AcceptedTranslation
pub mod RunsOfRows
pub mod DemandsRows
