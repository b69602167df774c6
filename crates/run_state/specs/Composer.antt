-- The environments and the pages, in code.
pub mod Standing
pub mod Due
