pub mod AskedRegisters
pub mod CommandLine
pub mod Commands
pub mod OptionLaws
pub mod PreparedWords
pub mod PageLists
pub mod OnLiterals
