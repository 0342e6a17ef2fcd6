pub mod Sizes
mod Factors
pub mod Weights
pub mod Changed
pub mod Damage
pub mod Worked
