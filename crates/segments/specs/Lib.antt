pub mod Segments
pub mod Question
