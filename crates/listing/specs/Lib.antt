pub mod Listing
pub mod Why
pub mod Printed
