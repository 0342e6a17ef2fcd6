pub mod Channel
pub mod Samples
