pub mod Answer
pub mod Spots
pub mod Faults
pub mod Findings
