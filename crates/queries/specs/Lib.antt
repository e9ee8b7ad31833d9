pub mod Reply
pub mod Queries
pub mod Across
