pub mod Bits
pub mod Samples
pub mod Sums
pub mod Extremes
pub mod Running
