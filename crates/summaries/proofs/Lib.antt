pub mod Doubled
pub mod Fields
