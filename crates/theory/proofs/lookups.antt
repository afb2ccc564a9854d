pub mod Superclasses
pub mod MethodNumbers
pub mod LookupsAgree
pub mod LookupLaws
pub mod TranslatorLookups
