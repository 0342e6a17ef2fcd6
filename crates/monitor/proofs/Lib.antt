pub mod Search
pub mod Monitor
