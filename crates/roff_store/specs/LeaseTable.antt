-- The table of leases.
pub mod Kept
