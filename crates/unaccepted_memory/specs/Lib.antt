pub mod Runs
pub mod Plans
pub mod Calls
pub mod History
pub mod Promises
pub mod CallLaws
