pub mod Overflows
mod Joining
mod Holding
