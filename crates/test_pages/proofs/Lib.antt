pub mod PartWidths
