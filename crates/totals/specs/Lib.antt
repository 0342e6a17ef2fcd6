pub mod Total
pub mod Running
