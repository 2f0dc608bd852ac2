pub mod Names
pub mod Prefixes
