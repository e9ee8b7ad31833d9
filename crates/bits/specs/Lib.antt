pub mod Words
pub mod Numbers
pub mod Layout
pub mod Lists
pub mod Decimal
