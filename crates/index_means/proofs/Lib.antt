pub mod Dividing
pub mod History
