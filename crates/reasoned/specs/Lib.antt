pub mod Reasoned
pub mod Told
