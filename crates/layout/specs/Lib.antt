pub mod Entries
pub mod Section
pub mod Sections
pub mod Barred
