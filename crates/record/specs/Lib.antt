pub mod Record
pub mod Stretch
