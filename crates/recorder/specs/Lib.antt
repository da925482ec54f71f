pub mod Runs
pub mod Chains
