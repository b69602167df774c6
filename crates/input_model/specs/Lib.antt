pub mod Arguments
pub mod Input
pub mod Shown
pub mod Looking
pub mod Unread
