pub mod Rows
pub mod Summary
pub mod Worked
