pub mod Closed
pub mod Filing
pub mod Grown
pub mod Numbers
pub mod Reached
pub mod Search
pub mod Told
pub mod Triples
