pub mod Accepted
pub mod Count
pub mod Front
pub mod RoundTrip
