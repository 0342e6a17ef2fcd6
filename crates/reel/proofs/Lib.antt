pub mod Rest
pub mod Place
pub mod Onward
pub mod Records
pub mod Reading
pub mod Walk
