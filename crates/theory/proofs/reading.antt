pub mod ParseFlatten
pub mod RowCounts
pub mod ParseProgram
pub mod FlattenParse
pub mod FlattenProgram
pub mod FormLimits
