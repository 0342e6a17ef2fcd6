pub mod Steps
pub mod OneField
pub mod Tables
pub mod Front
