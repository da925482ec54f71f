pub mod Stack
pub mod Worked
