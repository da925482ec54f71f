pub mod Powers
pub mod Coverages
pub mod Overlaps
