pub mod Decoding
pub mod Testing
pub mod Asking
pub mod Each
