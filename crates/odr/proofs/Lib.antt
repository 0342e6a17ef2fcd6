pub mod Segment
pub mod Demand3
