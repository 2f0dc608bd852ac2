pub mod Appending
pub mod Losing
