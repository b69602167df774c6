pub mod RunKinds
pub mod Unread
