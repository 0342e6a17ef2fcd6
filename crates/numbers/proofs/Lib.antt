pub mod Decimal
pub mod Places
pub mod Signs
pub mod Writing
