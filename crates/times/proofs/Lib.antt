pub mod Rounding
pub mod Timed
pub mod Counts
