pub mod Effects
pub mod RemovedRegisters
