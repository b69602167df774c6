pub mod Keeping
pub mod Ends
pub mod ArgumentBlock
pub mod CallStack
pub mod QuotedArguments
pub mod HeldBytes
