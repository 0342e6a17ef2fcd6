mod Interleave
pub mod Sign
pub mod OutThenIn
pub mod InThenOut
