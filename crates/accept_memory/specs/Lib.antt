pub mod Walks
pub mod Courses
pub mod States
pub mod Views
pub mod Promises
