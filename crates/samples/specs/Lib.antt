pub mod InOut
pub mod Totals
