pub mod Bits
pub mod Decimal
pub mod Steps
