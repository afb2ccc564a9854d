pub mod ComputedRules
