pub mod Reel
pub mod Shown
pub mod Walk
pub mod Reader
