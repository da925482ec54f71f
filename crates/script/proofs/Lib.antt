pub mod Lists
pub mod Numbers
pub mod RequestRuns
pub mod Stacks
