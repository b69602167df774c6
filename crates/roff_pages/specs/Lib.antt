pub mod Rows
pub mod WholePages
pub mod Reach
pub mod Pages
