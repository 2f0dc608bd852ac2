pub mod Numerals
pub mod Pieces
pub mod Turns
pub mod Rows
pub mod Walk
pub mod Found
pub mod Asking
