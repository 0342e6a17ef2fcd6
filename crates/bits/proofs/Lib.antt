pub mod Bits
pub mod Decimal
pub mod AllDigits
pub mod Reading
pub mod Writing
