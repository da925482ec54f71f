pub mod Pages
pub mod Requests
pub mod Replies
pub mod States
pub mod Levels
pub mod Laws
pub mod Layers
