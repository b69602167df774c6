pub mod Lasting
pub mod Registers
pub mod Titles
