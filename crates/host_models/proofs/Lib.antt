pub mod Unless
pub mod Cap
pub mod Retry
pub mod Inject
pub mod Some
pub mod Map
