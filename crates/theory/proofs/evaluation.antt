pub mod ObjectsAgree
pub mod RunsAgree
pub mod Growth
pub mod LimitedRuns
pub mod ProgramRuns
pub mod StoreNumbers
