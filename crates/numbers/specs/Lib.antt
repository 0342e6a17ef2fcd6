pub mod Number
pub mod Writing
