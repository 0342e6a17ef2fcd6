pub mod Stretch
pub mod Judged
mod Part
pub mod FirstBytes
mod NewStretch
mod Trips
pub mod RoundTrip
pub mod Bytes
