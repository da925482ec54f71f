pub mod Marks
pub mod Search
pub mod Views
pub mod Parts
pub mod Masks
pub mod Theorems
