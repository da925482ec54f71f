pub mod Steps
pub mod Finds
