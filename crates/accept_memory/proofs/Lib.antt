pub mod Places
pub mod Outcomes
pub mod Turns
pub mod Courses
pub mod PageLaws
pub mod Kept
pub mod Failures
pub mod CourseLaws
