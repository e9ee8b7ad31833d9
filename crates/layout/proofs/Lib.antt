pub mod Lists
pub mod Within
pub mod Skipped
pub mod Barred
