pub mod Codes
pub mod Negated
