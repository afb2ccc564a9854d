pub mod TypingRules
pub mod EffectLaws
pub mod SlotSorts
pub mod TypesAgree
pub mod RulesAgree
