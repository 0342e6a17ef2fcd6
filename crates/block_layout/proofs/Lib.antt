pub mod Given
pub mod Block
pub mod Exported
pub mod BlockAt
pub mod Lengths
pub mod Right
mod Judged
pub mod Carrying
pub mod Order
pub mod FirstBad
pub mod ImportAfterExport
pub mod ExportAfterImport
pub mod AcceptsExactly
pub mod Damaged
pub mod Number
pub mod Worked
