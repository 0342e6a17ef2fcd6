pub mod Changing
pub mod Accepted
