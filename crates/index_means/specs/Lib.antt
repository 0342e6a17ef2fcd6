pub mod Means
pub mod OfLedger
