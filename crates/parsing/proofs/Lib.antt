pub mod Places
pub mod Passes
pub mod LineLaws
pub mod Shapes
pub mod NodeLaws
pub mod Headings
pub mod ClassLaws
