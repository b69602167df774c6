pub mod Both
pub mod InMemory
pub mod Named
pub mod RunOver
mod Starting
mod Refusing
mod Told
