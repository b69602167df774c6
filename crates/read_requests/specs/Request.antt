-- What the code has of the requests, as the definition's.
pub mod Coded
