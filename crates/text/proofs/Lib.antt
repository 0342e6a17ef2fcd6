pub mod Line
pub mod Judging
