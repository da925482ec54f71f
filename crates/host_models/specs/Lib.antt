pub mod Map
pub mod Cap
pub mod Retry
pub mod Inject
