pub mod Rates
pub mod Answer
