pub mod Listed
pub mod Endings
pub mod Totals
pub mod Labels
pub mod PriceWords
