pub mod SampleTime
pub mod Phases
