pub mod AllCases
pub mod Segments
