pub mod TermLines
pub mod TermsRead
pub mod PricesHighest
pub mod NewTerms
pub mod PriceRuns
pub mod MonthDays
pub mod PriceReports
pub mod CalendarAnswers
