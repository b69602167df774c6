-- What the code of an environment keeps, and the history that it stands for.
pub mod Kept
pub mod Stands
pub mod Rests
pub mod Tells
pub mod Unfilled
