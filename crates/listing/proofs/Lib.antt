pub mod Line
pub mod Shortest
pub mod Longest
pub mod TextFrom
pub mod Answers
pub mod Cases
pub mod Enough
