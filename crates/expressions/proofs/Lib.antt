mod Lists
mod EffectLaws
pub mod Worlds
pub mod Typings
pub mod TypeLines
mod TurnsLetters
pub mod Turns
pub mod TypeNumbers
pub mod Environments
pub mod Slots
mod FieldTables
mod ThisKept
mod NodeTyping
mod LeafNodes
mod UnaryNodes
mod ChangeNode
mod SetNode
mod ChooseNode
mod BlockNode
mod MethodFound
mod CallNode
mod AppliedNumbers
mod TurnsNodes
mod TurnsUnary
mod TurnsLists
mod TurnsItems
mod TurnsArguments
mod TurnsWrites
mod TurnsArms
mod TurnsBlocks
mod TurnsCalls
