pub mod Length
pub mod Accepted
