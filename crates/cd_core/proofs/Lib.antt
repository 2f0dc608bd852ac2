pub mod Turns
pub mod Begins
pub mod Orders
