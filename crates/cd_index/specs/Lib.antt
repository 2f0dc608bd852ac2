pub mod Closure
pub mod Index
pub mod Lists
pub mod Walk
