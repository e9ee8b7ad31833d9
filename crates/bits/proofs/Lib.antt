pub mod Words
pub mod Lowest
pub mod Numbers
pub mod Lists
pub mod Decimal
pub mod Puts
