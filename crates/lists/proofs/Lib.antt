pub mod Order
pub mod Truth
pub mod Tests
pub mod Fill
pub mod Parts
pub mod Range
