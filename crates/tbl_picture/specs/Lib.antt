pub mod Nexts
pub mod Walks
pub mod RuleMarks
pub mod RulesWalked
pub mod ElementsWalked
