pub mod Obstacles
pub mod Parts
